-- What `monitor` replies, from the entries that a monitor has read.
use Rattle.std.proofs.Common.{◌≡◌, ◌+◌, ℕ, suc, List, [], ◌∷◌, ◌++◌, length, append-nil, Some, None, sym, ap, ◌∙◌, arith}
use Rattle.std.specs.Option.{option_map_or}
use Rattle.dioc_terms.specs.declared.names.Role.{Role}
use Rattle.dioc_terms.specs.declared.entries.Entry.{Entry}
use Rattle.dioc_terms.specs.Plain.{PlainBundle, Setting, setting}
use Rattle.role_monitor.proofs.Keeps.{run_more}
use Rattle.role_monitor.proofs.Listings.{then_some}
use Rattle.role_monitor.specs.declared.monitor.Monitor.{Monitor}
use Rattle.role_monitor.specs.declared.monitor.FeedFault.TheVariants as fault
use Rattle.role_monitor.specs.Monitors.{Deviated, HasRead}
use Rattle.role_monitor.specs.Monitoring.{MonitorState, deviates, deviates_from, mon, mon_from, mon_run, mon_start, own_entries}
use Rattle.marked_laws.proofs.Shapes.{some_same}
use Rattle.aioc_top.specs.Replies.{monitor_reply, no, role_judgement, yes}

-- behind entries that are kept the number goes on
kept_from : (b : Setting) (es rest : List Entry) (M N : MonitorState) (n : ℕ) → mon_from b M es ≡ Some N → deviates_from b M n (es ++ rest) ≡ deviates_from b N (length es + n) rest
kept_from b [] rest M N n h = let count : n ≡ 0 + n = omega arith in ap (λ X. deviates_from b X n rest) (some_same h) ∙ ap (λ k. deviates_from b N k rest) count
kept_from b (e ∷ es) rest M N n h =
    let next = then_some (λ X. mon_from b X es) (mon b M e) N h in
    let count : length es + suc n ≡ suc (length es) + n = omega arith in
    ap (λ o. option_map_or (λ X. deviates_from b X (suc n) (es ++ rest)) o (Some n)) next.1
    ∙ kept_from b es rest next.0 N (suc n) next.2
    ∙ ap (λ k. deviates_from b N k rest) count

module _ (b : PlainBundle) (r : Role) (es : List Entry) (M : MonitorState) (kept : mon_run b r es ≡ Some M) where
  -- where all entries are kept none deviates
  pub none_deviates : (all : List Entry) → es ≡ all → deviates b r all ≡ None
  none_deviates all same = ap (deviates b r) (sym same ∙ sym (append-nil es)) ∙ kept_from (setting b) es [] (mon_start b r) M 1 kept

  -- the entry behind those that are kept is the first that deviates, where it isn't kept
  pub deviates_here : (e : Entry) (rest : List Entry) → mon_run b r (es ++ e ∷ []) ≡ None → deviates b r (es ++ e ∷ rest) ≡ Some (suc (length es))
  deviates_here e rest none =
      let undefined : mon (setting b) M e ≡ None = sym (run_more (setting b) es e (mon_start b r) M kept) ∙ none in
      let count : length es + 1 ≡ suc (length es) = omega arith in
      kept_from (setting b) es (e ∷ rest) (mon_start b r) M 1 kept
      ∙ ap (λ o. option_map_or (λ X. deviates_from (setting b) X (suc (length es + 1)) rest) o (Some (length es + 1))) undefined
      ∙ ap Some count

-- ---- what is replied

module _ (b : PlainBundle) (r : Role) (entries : List Entry) (same : entries ≡ b.trace.entries) (monitor : Monitor) where
  -- the role deviates at the entry behind those that were read
  pub deviation_reply : (before rest : List Entry) (e : Entry) (n : ℕ) → HasRead b r monitor before → Deviated b r before e (fault.Deviates n) → before ++ e ∷ rest ≡ entries
      → monitor_reply r b ≡ no n
  deviation_reply before rest e n read deviated split =
      let at : deviates b r b.trace.entries ≡ Some n =
      ap (deviates b r) (sym same ∙ sym split) ∙ deviates_here b r before read.state read.runs e rest deviated.1 ∙ ap Some (sym deviated.0) in
      ap (role_judgement r b) at

  -- all entries were read
  pub kept_reply : (count : ℕ) → HasRead b r monitor entries → count ≡ length (own_entries r entries) → monitor_reply r b ≡ yes count
  kept_reply count read counted =
      let none = none_deviates b r entries read.state read.runs b.trace.entries same in
      ap (role_judgement r b) none ∙ sym (ap yes (counted ∙ ap (λ es. length (own_entries r es)) same))
