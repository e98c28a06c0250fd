-- What is printed of a run that has finished is that of the threads' run, or of a made bundle's.
use Rattle.std.proofs.Common.{◌≡◌, ◌≤◌, ◌⊎◌, inl, inr, ◌↔◌, ℕ, List, [], length, Bool, true, false, Some, refl, sym, ap, ◌∙◌, arith, None}
use Rattle.std.specs.Prelude.{unwrap_or, if◌then◌else◌}
use Rattle.std.specs.Option.{option_map_or}
use Rattle.dioc_terms.specs.declared.entries.Entry.{Entry}
use Rattle.dioc_terms.specs.Plain.{PlainBundle}
use Rattle.network_steps.specs.Network.{network_run, network_start, network_ended, Network}
use Rattle.net_laws.specs.Laws.{RunsAreSound, Arrives}
use Rattle.network_steps.specs.Schedule.{IsPrompt}
use Rattle.role_runner.specs.Endings.{IsRun}
use Rattle.net_core.specs.Nets.{network_at}
use Rattle.rule_checks.specs.Refusals.{IsAccepted}
use Rattle.schedule.specs.declared.runs.Finish.{Finish}
use Rattle.schedule.specs.declared.runs.Finish.TheVariants as finish
use Rattle.command_words.specs.Commands.{usual_steps}
use Rattle.command_words.specs.declared.commands.Options.{Options}
use Rattle.command_words.specs.declared.commands.Command.TheVariants as command
use Rattle.command_words.specs.declared.commands.Verb.TheVariants.{Gen}
use Rattle.load_gen.specs.Made.{made}
use Rattle.aioc_top.specs.declared.replies.End.TheVariants as end
use Rattle.aioc_top.specs.declared.replies.Written.{Written}
use Rattle.aioc_top.specs.Replies.{IsThreadRun, Replies, ended_reply, gen_history, gen_line, gen_reply, line_of_text, updates_of, reply_of, is_finished, step_history}
use Rattle.aioc_top.specs.Endings.{end_of}

abbrev is_end : Finish → Bool
is_end finish.Ended = true
is_end finish.Limit = false

end_by : (how : Finish) → end_of how ≡ (if is_end how then end.Done else end.Limit)
end_by finish.Ended = refl
end_by finish.Limit = refl

-- how the run finished is how its network stands
ended_by : (how : Finish) (t : Bool) {A : Type 0} → (how ≡ finish.Ended) ↔ (t ≡ true) → (how ≡ finish.Limit) ↔ (A × (t ≡ false)) → t ≡ is_end how
ended_by finish.Ended t ended limit = ended.0 refl
ended_by finish.Limit t ended limit = (limit.0 refl).1

module _ (options : Options) (b : PlainBundle) (is : IsAccepted b) (sound : RunsAreSound) where
  arrives : Arrives b options.steps (step_history options b)
  arrives = sound b [] (network_start b) options.seed options.steps is refl (omega arith)

  -- the network after the run, as a net tells it
  finished_by : (H : List Entry) → H ≡ step_history options b → is_finished b H ≡ network_ended b.cast (network_at b H)
  finished_by H same =
      let runs : network_run b H ≡ Some arrives.network = ap (network_run b) same ∙ arrives.runs in
      ap (λ o. option_map_or (network_ended b.cast) o false) runs
      ∙ sym (ap (λ o. network_ended b.cast (unwrap_or o (network_start b))) runs)

-- ---- the run of the threads

pub run_replied : (options : Options) (b : PlainBundle) (H : List Entry) (over : Bool) (written : Written) → IsRun b H → IsPrompt b H → length H ≤ options.steps
    → over ≡ network_ended b.cast (network_at b H) → (over ≡ false → length H ≡ options.steps)
    → reply_of written ≡ ended_reply options H over
    → Replies (command.Run options) b (reply_of written)
run_replied options b H over written run prompt within told full replied = (H, made, replied ∙ ap (ended_reply options H) finished)
  where
    stands : over ≡ network_ended b.cast run.network
    stands = told ∙ ap (λ o. network_ended b.cast (unwrap_or o (network_start b))) run.runs

    finished : over ≡ is_finished b H
    finished = stands ∙ sym (ap (λ o. option_map_or (network_ended b.cast) o false) run.runs)

    by_end : (t : Bool) → over ≡ t → (network_ended b.cast run.network ≡ true) ⊎ (length H ≡ options.steps)
    by_end true e = inl (sym stands ∙ e)
    by_end false e = inr (full e)

    made : IsThreadRun b options.steps H
    made = record { network = run.network; runs = run.runs; prompt = prompt; within = within; finished = by_end over refl }

-- ---- the line of a made bundle

module _ (number size : ℕ) (is : IsAccepted (made number size)) (sound : RunsAreSound) where
  -- as many entries as where no other number is asked for
  abbrev usual : Options
  usual = record { seed = None; steps = usual_steps Gen; workers = 4; aux = false; json = false }

  updates_by : (H : List Entry) → H ≡ gen_history number size → (network_at (made number size) H).updates ≡ updates_of (made number size) (gen_history number size)
  updates_by H same =
      let runs = (arrives usual (made number size) is sound).runs in
      (λ j. (network_at (made number size) (same j)).updates)
      ∙ ap (λ o. (unwrap_or o (network_start (made number size))).updates) runs
      ∙ sym (ap (λ o. option_map_or (λ (N : Network). N.updates) o 0) runs)

  pub gen_replied : (H : List Entry) (how : Finish) (written : Written) {A : Type 0} → H ≡ gen_history number size
      → (how ≡ finish.Ended) ↔ (network_ended (made number size).cast (network_at (made number size) H) ≡ true)
      → (how ≡ finish.Limit) ↔ (A × (network_ended (made number size).cast (network_at (made number size) H) ≡ false))
      → written.end ≡ end_of how
      → written.text.items ≡ line_of_text (gen_line number size (made number size) H (network_at (made number size) H).updates)
      → reply_of written ≡ gen_reply number size
  gen_replied H how written same ended limit ends wrote =
      let b = made number size in
      let over : is_end how ≡ is_finished b (gen_history number size) =
      sym (ended_by how (network_ended b.cast (network_at b H)) ended limit) ∙ sym (finished_by usual b is sound H same) ∙ ap (is_finished b) same in
      let end_is : written.end ≡ (if is_finished b (gen_history number size) then end.Done else end.Limit) =
      ends ∙ end_by how ∙ ap (λ t. if t then end.Done else end.Limit) over in
      let text_is : written.text.items ≡ line_of_text (gen_line number size b (gen_history number size) (updates_of b (gen_history number size))) =
      wrote ∙ (λ j. line_of_text (gen_line number size b (same j) (updates_by H same j))) in
      λ j. record { end = end_is j; text = text_is j }
