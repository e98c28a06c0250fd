-- The lines of a trace go through.
use Rattle.std.proofs.Common.{◌≡◌, ℕ, Bool, true, false, List, [], ◌∷◌, ◌++◌, Option, Some, cond, not, ◌&&◌, refl, sym, ap, ◌∙◌, subst, arith, codes}
use Rattle.limits.specs.Limits.{greatest_place}
use Rattle.aioc_tokens.specs.declared.words.Word.TheVariants as word
use Rattle.aioc_tokens.specs.declared.words.Punctuator.TheVariants as punctuator
use Rattle.aioc_tokens.specs.Lexemes.{Lexeme, Name, Number, Reserved, Symbol}
use Rattle.expr_syntax.specs.Constants.{greatest}
use Rattle.wanted_tokens.specs.declared.goals.Goal.{Goal}
use Rattle.wanted_tokens.specs.declared.goals.Goal.TheVariants as goal
use Rattle.wanted_tokens.specs.Looks.{look}
use Rattle.wanted_tokens.specs.Goals.{right_brace, equal, at_sign, arrow_sign, dot, hash}
use Rattle.wanted_tokens.specs.Takings.{Takes}
use Rattle.wanted_tokens.specs.Wanted.{taking}
use Rattle.bundle_text.proofs.Through.{Through, takes, passes}
use Rattle.bundle_text.proofs.ChoreographiesThrough.{number_goes, value_goes}
use Rattle.dioc_terms.specs.declared.names.Index.{Index}
use Rattle.dioc_terms.specs.declared.processes.Tag.{Tag}
use Rattle.dioc_terms.specs.declared.processes.Tag.TheVariants as tag
use Rattle.dioc_terms.specs.declared.entries.Note.{Note}
use Rattle.dioc_terms.specs.declared.entries.Chosen.{Chosen}
use Rattle.dioc_terms.specs.declared.entries.Entry.{Entry}
use Rattle.dioc_terms.specs.declared.bundles.Last.{Last}
use Rattle.trace_syntax.specs.Grammar.{IsIndex, is_index, IsTag, operation, auxiliary, is_key, IsTruth, is_true, is_false, IsNote, value, choice, go, turn_done, end_done, out_done, keeps, part, is_operation, IsVariable, variable, no_variable, IsSetting, is_setting, IsChoice, kept, replaced, IsLine, put, take, set, input, pick, scope, add, drop, env, ended, stopped, AreEntries, no_entry, one_more, IsTrace, goes_on, is_over}
use Rattle.std.specs.List.{find, list_all}
use Rattle.std.specs.Str.{bytes_eq}
use Rattle.std.proofs.lemmas.Slice.Eq.{bytes_eq-Decides}
use Rattle.trace_syntax.specs.Words.{auxiliary_of, auxiliary_tags, tag_word}
use Rattle.trace_syntax.specs.declared.words.Setting.{Setting}
use Rattle.trace_syntax.specs.declared.words.Line.TheVariants as line
use Rattle.wanted_tokens.specs.Traces.{index_goals}

module _ (second : Bool) (rest : List Goal) where
  index_goes : {from to : List Lexeme} {at : Index} → IsIndex from at to → Through second rest to → Through second (index_goals ++ rest) from
  index_goes (is_index {epoch_digits = epoch_digits} {place_digits = place_digits} {epoch = epoch} {place = place} {to = to} is fits fits2) through =
      subst (Through second (index_goals ++ rest)) (sym is)
      (takes second hash (goal.Number greatest_place ∷ dot ∷ goal.Number greatest_place ∷ rest) [] (Symbol punctuator.Hash) (Number epoch_digits ∷ Symbol punctuator.Dot ∷ Number place_digits ∷ to) refl
      (number_goes second (dot ∷ goal.Number greatest_place ∷ rest) greatest_place epoch_digits (Symbol punctuator.Dot ∷ Number place_digits ∷ to) epoch (omega arith) fits
      (takes second dot (goal.Number greatest_place ∷ rest) [] (Symbol punctuator.Dot) (Number place_digits ∷ to) refl
      (number_goes second rest greatest_place place_digits to place (omega arith) fits2 through))))

  truth_goes : {from to : List Lexeme} {flag : Bool} → IsTruth from flag to → Through second rest to → Through second (goal.Truth ∷ rest) from
  truth_goes (is_true {to = to} is) through = subst (Through second (goal.Truth ∷ rest)) (sym is) (takes second goal.Truth rest [] (Reserved word.True) to refl through)
  truth_goes (is_false {to = to} is) through = subst (Through second (goal.Truth ∷ rest)) (sym is) (takes second goal.Truth rest [] (Reserved word.False) to refl through)

-- ---- auxiliary tags

found_by : {X : Type 0} (p : X → Bool) (y : X) (ys : List X) (x : X) (b : Bool) → p y ≡ b → (find p ys ≡ Some x → p x ≡ true) → cond b (Some y) (find p ys) ≡ Some x → p x ≡ true
found_by p y ys x true test later is = let same : y ≡ x = cc in subst (λ x. p x ≡ true) same test
found_by p y ys x false test later is = later is

found_test : {X : Type 0} (p : X → Bool) (list : List X) (x : X) → find p list ≡ Some x → p x ≡ true
found_test p [] x is = absurd cc
found_test p (y ∷ ys) x is = found_by p y ys x (p y) refl (found_test p ys x) is

both : (a b : Bool) → (a && b) ≡ true → (a ≡ true) × (b ≡ true)
both true b is = (refl, is)
both false b is = absurd cc

kept_by : {X : Type 0} (p q : X → Bool) (y : X) (ys : List X) (x : X) (b : Bool) → q y ≡ true → (find p ys ≡ Some x → q x ≡ true) → cond b (Some y) (find p ys) ≡ Some x → q x ≡ true
kept_by p q y ys x true holds later is = let same : y ≡ x = cc in subst (λ x. q x ≡ true) same holds
kept_by p q y ys x false holds later is = later is

found_keeps : {X : Type 0} (p q : X → Bool) (list : List X) (x : X) → list_all q list ≡ true → find p list ≡ Some x → q x ≡ true
found_keeps p q [] x all is = absurd cc
found_keeps p q (y ∷ ys) x all is = let parts = both (q y) (list_all q ys) all in kept_by p q y ys x (p y) parts.0 (found_keeps p q ys x parts.1) is

spelled_so : (word : List ℕ) (aux : Tag) → auxiliary_of word ≡ Some aux → word ≡ tag_word aux
unfolding auxiliary_of
spelled_so word aux is = (bytes_eq-Decides word (tag_word aux)).0 (found_test (λ aux. bytes_eq word (tag_word aux)) auxiliary_tags aux is)

no_operation : (word name : List ℕ) → auxiliary_of word ≡ Some (tag.Op name) → ⊥
unfolding auxiliary_of
no_operation word name is = let kept : not (is_operation (tag.Op name)) ≡ true = found_keeps (λ aux. bytes_eq word (tag_word aux)) (λ aux. not (is_operation aux)) auxiliary_tags (tag.Op name) refl is in cc

module _ (second : Bool) (rest : List Goal) where
  -- what follows a tag of a put
  payload_goes : (wanted : Goal) {indexed equated noted : List Lexeme} {at : Index} → IsIndex indexed at equated → equated ≡ Symbol punctuator.Equal ∷ noted → Through second (wanted ∷ rest) noted
      → Through second (index_goals ++ equal ∷ wanted ∷ rest) indexed
  payload_goes wanted {noted = noted} i is through =
      index_goes second (equal ∷ wanted ∷ rest) i (subst (Through second (equal ∷ wanted ∷ rest)) (sym is) (takes second equal (wanted ∷ rest) [] (Symbol punctuator.Equal) noted refl through))

  put_word : (wanted : Goal) (word : List ℕ) (indexed : List Lexeme) → taking second goal.AuxiliaryOfPut (look (Name word ∷ indexed)) ≡ Takes (index_goals ++ equal ∷ wanted ∷ []) → Through second (index_goals ++ equal ∷ wanted ∷ rest) indexed
      → Through second (goal.AuxiliaryOfPut ∷ rest) (Name word ∷ indexed)
  put_word wanted word indexed is through = takes second goal.AuxiliaryOfPut rest (index_goals ++ equal ∷ wanted ∷ []) (Name word) indexed is through

  spelled_taken : (wanted : Goal) (word spelled : List ℕ) (indexed : List Lexeme) → word ≡ spelled → taking second goal.AuxiliaryOfPut (look (Name spelled ∷ indexed)) ≡ Takes (index_goals ++ equal ∷ wanted ∷ [])
      → taking second goal.AuxiliaryOfPut (look (Name word ∷ indexed)) ≡ Takes (index_goals ++ equal ∷ wanted ∷ [])
  spelled_taken wanted word spelled indexed same is = ap (λ word. taking second goal.AuxiliaryOfPut (look (Name word ∷ indexed))) same ∙ is

  done_goes : {from : List Lexeme} (to : List Lexeme) → from ≡ Name (codes "done") ∷ to → Through second rest to → Through second (goal.Done ∷ rest) from
  done_goes to is through = subst (Through second (goal.Done ∷ rest)) (sym is) (takes second goal.Done rest [] (Name (codes "done")) to refl through)

  auxiliary_goes : {aux : Tag} {payload : Note} {noted to : List Lexeme} (word : List ℕ) → auxiliary_of word ≡ Some aux → IsNote noted aux payload to → {indexed equated : List Lexeme} {at : Index} → IsIndex indexed at equated → equated ≡ Symbol punctuator.Equal ∷ noted
      → Through second rest to → Through second (goal.AuxiliaryOfPut ∷ rest) (Name word ∷ indexed)
  auxiliary_goes word of (value {name = name} read) i is through = absurd (no_operation word name of)
  auxiliary_goes word of (choice t) {indexed = indexed} i is through = put_word goal.Truth word indexed (spelled_taken goal.Truth word (codes "choice") indexed (spelled_so word tag.Choice of) refl) (payload_goes goal.Truth i is (truth_goes second rest t through))
  auxiliary_goes word of (go t) {indexed = indexed} i is through = put_word goal.Truth word indexed (spelled_taken goal.Truth word (codes "go") indexed (spelled_so word tag.Go of) refl) (payload_goes goal.Truth i is (truth_goes second rest t through))
  auxiliary_goes word of (turn_done {to = to} begins) {indexed = indexed} i is through = put_word goal.Done word indexed (spelled_taken goal.Done word (codes "turn") indexed (spelled_so word tag.Turn of) refl) (payload_goes goal.Done i is (done_goes to begins through))
  auxiliary_goes word of (end_done {to = to} begins) {indexed = indexed} i is through = put_word goal.Done word indexed (spelled_taken goal.Done word (codes "end") indexed (spelled_so word tag.End of) refl) (payload_goes goal.Done i is (done_goes to begins through))
  auxiliary_goes word of (out_done {to = to} begins) {indexed = indexed} i is through = put_word goal.Done word indexed (spelled_taken goal.Done word (codes "out") indexed (spelled_so word tag.Out of) refl) (payload_goes goal.Done i is (done_goes to begins through))
  auxiliary_goes word of (keeps {to = to} begins) {indexed = indexed} i is through = put_word goal.Begun word indexed (spelled_taken goal.Begun word (codes "begin") indexed (spelled_so word tag.Begin of) refl)
      (payload_goes goal.Begun i is (subst (Through second (goal.Begun ∷ rest)) (sym begins) (takes second goal.Begun rest [] (Name (codes "keep")) to refl through)))
  auxiliary_goes word of (part {digits = digits} {epoch = epoch} {to = to} begins fits) {indexed = indexed} i is through = put_word goal.Begun word indexed (spelled_taken goal.Begun word (codes "begin") indexed (spelled_so word tag.Begin of) refl)
      (payload_goes goal.Begun i is (subst (Through second (goal.Begun ∷ rest)) (sym begins)
      (takes second goal.Begun rest (goal.Number greatest_place ∷ []) (Name (codes "part")) (Number digits ∷ to) refl (number_goes second rest greatest_place digits to epoch (omega arith) fits through))))

  -- a tag of a put with its payload
  put_tag_goes : {what : Tag} {payload : Note} {tagged indexed equated noted to : List Lexeme} {at : Index} → IsTag tagged what indexed → IsIndex indexed at equated → equated ≡ Symbol punctuator.Equal ∷ noted → IsNote noted what payload to
      → Through second rest to → Through second (goal.TagOfPut ∷ rest) tagged
  put_tag_goes {noted = noted} {to = to} (operation {name = name} {to = indexed} begins) i is (value {v = v} read) through =
      subst (Through second (goal.TagOfPut ∷ rest)) (sym begins)
      (takes second goal.TagOfPut rest (index_goals ++ equal ∷ goal.Value ∷ []) (Name name) indexed refl (payload_goes goal.Value i is (value_goes second rest noted to v read through)))
  put_tag_goes (auxiliary {word = word} {to = indexed} begins of) i is n through =
      subst (Through second (goal.TagOfPut ∷ rest)) (sym begins)
      (takes second goal.TagOfPut rest (goal.AuxiliaryOfPut ∷ []) (Symbol punctuator.Bang) (Name word ∷ indexed) refl (auxiliary_goes word of n i is through))

  take_word : (word : List ℕ) (aux : Tag) (indexed : List Lexeme) → auxiliary_of word ≡ Some aux → taking second goal.AuxiliaryOfTake (look (Name word ∷ indexed)) ≡ Takes index_goals
  take_word word (tag.Op name) indexed of = absurd (no_operation word name of)
  take_word word tag.Choice indexed of = ap (λ word. taking second goal.AuxiliaryOfTake (look (Name word ∷ indexed))) (spelled_so word tag.Choice of)
  take_word word tag.Go indexed of = ap (λ word. taking second goal.AuxiliaryOfTake (look (Name word ∷ indexed))) (spelled_so word tag.Go of)
  take_word word tag.Turn indexed of = ap (λ word. taking second goal.AuxiliaryOfTake (look (Name word ∷ indexed))) (spelled_so word tag.Turn of)
  take_word word tag.Begin indexed of = ap (λ word. taking second goal.AuxiliaryOfTake (look (Name word ∷ indexed))) (spelled_so word tag.Begin of)
  take_word word tag.End indexed of = ap (λ word. taking second goal.AuxiliaryOfTake (look (Name word ∷ indexed))) (spelled_so word tag.End of)
  take_word word tag.Out indexed of = ap (λ word. taking second goal.AuxiliaryOfTake (look (Name word ∷ indexed))) (spelled_so word tag.Out of)

  -- a tag of a take with its variable
  take_tag_goes : {what : Tag} {var : Option (List ℕ)} {tagged indexed named to : List Lexeme} {at : Index} → IsTag tagged what indexed → IsIndex indexed at named → IsVariable named what var to
      → Through second rest to → Through second (goal.TagOfTake ∷ rest) tagged
  take_tag_goes (operation {name = name} {to = indexed} begins) i (variable {variable = x} {to = to} is) through =
      subst (Through second (goal.TagOfTake ∷ rest)) (sym begins)
      (takes second goal.TagOfTake rest (index_goals ++ goal.Name ∷ []) (Name name) indexed refl
      (index_goes second (goal.Name ∷ rest) i (subst (Through second (goal.Name ∷ rest)) (sym is) (takes second goal.Name rest [] (Name x) to refl through))))
  take_tag_goes (operation begins) i (no_variable none) through = absurd cc
  take_tag_goes (auxiliary {word = word} {aux = aux} {to = indexed} begins of) i (variable {name = name} is) through = absurd (no_operation word name of)
  take_tag_goes (auxiliary {word = word} {aux = aux} {to = indexed} begins of) i (no_variable none) through =
      subst (Through second (goal.TagOfTake ∷ rest)) (sym begins)
      (takes second goal.TagOfTake rest (goal.AuxiliaryOfTake ∷ []) (Symbol punctuator.Bang) (Name word ∷ indexed) refl
      (takes second goal.AuxiliaryOfTake rest index_goals (Name word) indexed (take_word word aux indexed of) (index_goes second rest i through)))

  -- a message's ends
  ends_go : (sender receiver : List ℕ) {from : List Lexeme} (tagged : List Lexeme) → from ≡ Name sender ∷ Symbol punctuator.Arrow ∷ Name receiver ∷ tagged → Through second rest tagged
      → Through second (goal.Name ∷ arrow_sign ∷ goal.Name ∷ rest) from
  ends_go sender receiver tagged is through =
      subst (Through second (goal.Name ∷ arrow_sign ∷ goal.Name ∷ rest)) (sym is)
      (takes second goal.Name (arrow_sign ∷ goal.Name ∷ rest) [] (Name sender) (Symbol punctuator.Arrow ∷ Name receiver ∷ tagged) refl
      (takes second arrow_sign (goal.Name ∷ rest) [] (Symbol punctuator.Arrow) (Name receiver ∷ tagged) refl
      (takes second goal.Name rest [] (Name receiver) tagged refl through)))

  setting_goes : {from to : List Lexeme} {setting : Setting} → IsSetting from setting to → Through second rest to → Through second (goal.Name ∷ at_sign ∷ goal.Name ∷ index_goals ++ equal ∷ goal.Value ∷ rest) from
  setting_goes (is_setting {variable = x} {owner = owner} {v = v} {indexed = indexed} {valued = valued} {to = to} begins i is read) through =
      subst (Through second (goal.Name ∷ at_sign ∷ goal.Name ∷ index_goals ++ equal ∷ goal.Value ∷ rest)) (sym begins)
      (takes second goal.Name (at_sign ∷ goal.Name ∷ index_goals ++ equal ∷ goal.Value ∷ rest) [] (Name x) (Symbol punctuator.At ∷ Name owner ∷ indexed) refl
      (takes second at_sign (goal.Name ∷ index_goals ++ equal ∷ goal.Value ∷ rest) [] (Symbol punctuator.At) (Name owner ∷ indexed) refl
      (takes second goal.Name (index_goals ++ equal ∷ goal.Value ∷ rest) [] (Name owner) indexed refl
      (payload_goes goal.Value i is (value_goes second rest valued to v read through)))))

  choice_goes : {from to : List Lexeme} {chosen : Chosen} → IsChoice from chosen to → Through second rest to → Through second (goal.Chosen ∷ rest) from
  choice_goes (kept {to = to} is) through = subst (Through second (goal.Chosen ∷ rest)) (sym is) (takes second goal.Chosen rest [] (Name (codes "keep")) to refl through)
  choice_goes (replaced {name = name} {digits = digits} {epoch = epoch} {to = to} is fits) through =
      subst (Through second (goal.Chosen ∷ rest)) (sym is)
      (takes second goal.Chosen rest (goal.Name ∷ goal.As ∷ goal.Number greatest_place ∷ []) (Reserved word.Rule) (Name name ∷ Name (codes "as") ∷ Number digits ∷ to) refl
      (takes second goal.Name (goal.As ∷ goal.Number greatest_place ∷ rest) [] (Name name) (Name (codes "as") ∷ Number digits ∷ to) refl
      (takes second goal.As (goal.Number greatest_place ∷ rest) [] (Name (codes "as")) (Number digits ∷ to) refl
      (number_goes second rest greatest_place digits to epoch (omega arith) fits through))))

-- ---- lines

module _ (second : Bool) (rest : List Goal) where
  -- the line of an entry goes through, and others may follow
  line_goes : {from to : List Lexeme} {e : Entry} → IsLine from (line.Entry e) to → Through second (goal.Lines ∷ rest) to → Through second (goal.Lines ∷ rest) from
  line_goes (put {keyed = keyed} is (is_key {sender = sender} {receiver = receiver} {tagged = tagged} begins t i) ends n) through =
      subst (Through second (goal.Lines ∷ rest)) (sym is)
      (takes second goal.Lines rest (goal.Name ∷ arrow_sign ∷ goal.Name ∷ goal.TagOfPut ∷ goal.Lines ∷ []) (Name (codes "put")) keyed refl
      (ends_go second (goal.TagOfPut ∷ goal.Lines ∷ rest) sender receiver tagged begins (put_tag_goes second (goal.Lines ∷ rest) t i ends n through)))
  line_goes (take {keyed = keyed} is (is_key {sender = sender} {receiver = receiver} {tagged = tagged} begins t i) x) through =
      subst (Through second (goal.Lines ∷ rest)) (sym is)
      (takes second goal.Lines rest (goal.Name ∷ arrow_sign ∷ goal.Name ∷ goal.TagOfTake ∷ goal.Lines ∷ []) (Name (codes "take")) keyed refl
      (ends_go second (goal.TagOfTake ∷ goal.Lines ∷ rest) sender receiver tagged begins (take_tag_goes second (goal.Lines ∷ rest) t i x through)))
  line_goes (set {rest = behind} is setting) through =
      subst (Through second (goal.Lines ∷ rest)) (sym is)
      (takes second goal.Lines rest (goal.Name ∷ at_sign ∷ goal.Name ∷ index_goals ++ equal ∷ goal.Value ∷ goal.Lines ∷ []) (Name (codes "set")) behind refl (setting_goes second (goal.Lines ∷ rest) setting through))
  line_goes (input {rest = behind} is setting) through =
      subst (Through second (goal.Lines ∷ rest)) (sym is)
      (takes second goal.Lines rest (goal.Name ∷ at_sign ∷ goal.Name ∷ index_goals ++ equal ∷ goal.Value ∷ goal.Lines ∷ []) (Reserved word.Input) behind refl (setting_goes second (goal.Lines ∷ rest) setting through))
  line_goes (pick {chooser = chooser} {indexed = indexed} is i t) through =
      subst (Through second (goal.Lines ∷ rest)) (sym is)
      (takes second goal.Lines rest (goal.Name ∷ index_goals ++ goal.Truth ∷ goal.Lines ∷ []) (Name (codes "pick")) (Name chooser ∷ indexed) refl
      (takes second goal.Name (index_goals ++ goal.Truth ∷ goal.Lines ∷ rest) [] (Name chooser) indexed refl
      (index_goes second (goal.Truth ∷ goal.Lines ∷ rest) i (truth_goes second (goal.Lines ∷ rest) t through))))
  line_goes (scope {leader = leader} {indexed = indexed} is i chosen) through =
      subst (Through second (goal.Lines ∷ rest)) (sym is)
      (takes second goal.Lines rest (goal.Name ∷ index_goals ++ goal.Chosen ∷ goal.Lines ∷ []) (Reserved word.Scope) (Name leader ∷ indexed) refl
      (takes second goal.Name (index_goals ++ goal.Chosen ∷ goal.Lines ∷ rest) [] (Name leader) indexed refl
      (index_goes second (goal.Chosen ∷ goal.Lines ∷ rest) i (choice_goes second (goal.Lines ∷ rest) chosen through))))
  line_goes (add {name = name} {to = to} is) through =
      subst (Through second (goal.Lines ∷ rest)) (sym is)
      (takes second goal.Lines rest (goal.Name ∷ goal.Lines ∷ []) (Name (codes "add")) (Name name ∷ to) refl (takes second goal.Name (goal.Lines ∷ rest) [] (Name name) to refl through))
  line_goes (drop {name = name} {to = to} is) through =
      subst (Through second (goal.Lines ∷ rest)) (sym is)
      (takes second goal.Lines rest (goal.Name ∷ goal.Lines ∷ []) (Name (codes "drop")) (Name name ∷ to) refl (takes second goal.Name (goal.Lines ∷ rest) [] (Name name) to refl through))
  line_goes {to = to} (env {key = key} {v = v} {valued = valued} is read) through =
      subst (Through second (goal.Lines ∷ rest)) (sym is)
      (takes second goal.Lines rest (goal.Name ∷ equal ∷ goal.Value ∷ goal.Lines ∷ []) (Name (codes "env")) (Name key ∷ Symbol punctuator.Equal ∷ valued) refl
      (takes second goal.Name (equal ∷ goal.Value ∷ goal.Lines ∷ rest) [] (Name key) (Symbol punctuator.Equal ∷ valued) refl
      (takes second equal (goal.Value ∷ goal.Lines ∷ rest) [] (Symbol punctuator.Equal) valued refl
      (value_goes second (goal.Lines ∷ rest) valued to v read through))))

  -- a last line goes through
  last_goes : {from to : List Lexeme} {end : Last} → IsLine from (line.Last end) to → Through second rest to → Through second (goal.Lines ∷ rest) from
  last_goes (ended {digits = digits} {count = count} {to = to} is fits) through =
      subst (Through second (goal.Lines ∷ rest)) (sym is)
      (takes second goal.Lines rest (goal.Number greatest ∷ []) (Name (codes "ended")) (Number digits ∷ to) refl (number_goes second rest greatest digits to count (omega arith) fits through))
  last_goes (stopped {digits = digits} {count = count} {to = to} is fits) through =
      subst (Through second (goal.Lines ∷ rest)) (sym is)
      (takes second goal.Lines rest (goal.Number greatest ∷ []) (Name (codes "stopped")) (Number digits ∷ to) refl (number_goes second rest greatest digits to count (omega arith) fits through))

  entries_go : {from to : List Lexeme} {entries : List Entry} → AreEntries from entries to → Through second (goal.Lines ∷ rest) to → Through second (goal.Lines ∷ rest) from
  entries_go no_entry through = through
  entries_go (one_more r others) through = line_goes r (entries_go others through)

-- the lines of a trace go through, up to the brace behind them
pub trace_goes : (second : Bool) (rest : List Goal) {from behind : List Lexeme} {entries : List Entry} {end : Option Last} → IsTrace from entries end behind → (to : List Lexeme) → behind ≡ Symbol punctuator.RightBrace ∷ to → Through second rest to
    → Through second (goal.Lines ∷ right_brace ∷ rest) from
trace_goes second rest (goes_on lines) to is through =
    entries_go second (right_brace ∷ rest) lines (subst (Through second (goal.Lines ∷ right_brace ∷ rest)) (sym is)
    (passes second goal.Lines (right_brace ∷ rest) (Symbol punctuator.RightBrace ∷ to) refl (takes second right_brace rest [] (Symbol punctuator.RightBrace) to refl through)))
trace_goes second rest (is_over lines r) to is through =
    entries_go second (right_brace ∷ rest) lines (last_goes second (right_brace ∷ rest) r (subst (Through second (right_brace ∷ rest)) (sym is) (takes second right_brace rest [] (Symbol punctuator.RightBrace) to refl through)))
