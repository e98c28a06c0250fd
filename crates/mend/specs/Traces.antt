-- What a trace of a mended bundle says of the input: the entries of added messages go, each index
-- is that of the input's construct, and the changes may come at once.
use Rattle.std.specs.Prelude.{◌≡◌, ℕ, zero, suc, List, [], ◌∷◌, ◌++◌, Bool, false, not, map, filter, Option, Some, None, IsSome, All, find, slice_get, unwrap_or}
use Rattle.std.specs.Option.{option_map_or}
use Rattle.dioc_terms.specs.declared.names.Role.{Role}
use Rattle.dioc_terms.specs.declared.names.Index.{Index}
use Rattle.dioc_terms.specs.declared.processes.Key.{Key}
use Rattle.dioc_terms.specs.declared.processes.Tag.{Tag}
use Rattle.dioc_terms.specs.declared.processes.Tag.TheVariants.{Op}
use Rattle.dioc_terms.specs.declared.entries.Chosen.TheVariants as chosen
use Rattle.dioc_terms.specs.declared.entries.Entry.{Entry}
use Rattle.dioc_terms.specs.declared.entries.Entry.TheVariants as entry
use Rattle.dioc_terms.specs.declared.bundles.Timed.{Timed}
use Rattle.dioc_terms.specs.Plain.{PlainRule, PlainBundle, Setting, setting}
use Rattle.dioc_terms.specs.Rules.{Book, is_named}
use Rattle.dioc_terms.specs.Terms.{Term, Skip, at_epoch, index_at, indexed, cast_of}
use Rattle.index_marks.specs.Indices.{indices}
use Rattle.global_steps.specs.Follow.{State, follow, play_start, play}
use Rattle.mend.specs.Names.{begins_sq, taken_name, taken_variable}
use Rattle.mend.specs.Mended.{relinked, mended}

-- whether the entry puts or takes an added message
abbrev pub is_added_tag : Tag → Bool
is_added_tag (Op o) = begins_sq o
is_added_tag _ = false

abbrev pub is_added_entry : Entry → Bool
is_added_entry (entry.Put k n) = is_added_tag k.tag
is_added_entry (entry.Take k x) = is_added_tag k.tag
is_added_entry _ = false

-- the entry with its index changed
abbrev pub key_at : (Index → Index) → Key → Key
key_at f k = record { from = k.from; to = k.to; index = f k.index; tag = k.tag }

abbrev pub reindexed : (Index → Index) → Entry → Entry
reindexed f (entry.Put k n) = entry.Put (key_at f k) n
reindexed f (entry.Take k x) = entry.Take (key_at f k) x
reindexed f (entry.Set i r x v) = entry.Set (f i) r x v
reindexed f (entry.Input i r x v) = entry.Input (f i) r x v
reindexed f (entry.Pick i r b) = entry.Pick (f i) r b
reindexed f (entry.Scope i r c) = entry.Scope (f i) r c
reindexed f (entry.Add name) = entry.Add name
reindexed f (entry.Drop name) = entry.Drop name
reindexed f (entry.Env key v) = entry.Env key v

-- a trace without the entries of added messages, and with its indices changed
abbrev pub lessened : (Index → Index) → List Entry → List Entry
lessened f es = map (reindexed f) (filter (λ e. not (is_added_entry e)) es)

-- the index in the input of the construct that has this place in the mended text: joining keeps the
-- indices, and the marks of the mended text count its constructs
abbrev pub index_before : List Role → Term → ℕ → Index
index_before cast I place = unwrap_or (slice_get (indices (relinked cast I)) place) (index_at 0)

-- the text of the input for an epoch: the program's own, and of each update the rule's body
abbrev pub text_at : Term → List Term → ℕ → Term
text_at I bodies zero = I
text_at I bodies (suc n) = unwrap_or (slice_get bodies n) Skip

-- the index in the input of the construct of this index in the mended bundle
abbrev pub original : List Role → Term → List Term → Index → Index
original cast I bodies i = at_epoch i.epoch (index_before cast (text_at I bodies i.epoch) i.place)

-- the input's body of the rule of that name in the book
abbrev pub body_named : List PlainRule → Book → List ℕ → Term
body_named rules book name = of_number (find (is_named rules name) book.order)
  where
    of_rule : Option PlainRule → Term
    of_rule None = Skip
    of_rule (Some rule) = rule.body

    of_number : Option ℕ → Term
    of_number None = Skip
    of_number (Some m) = of_rule (slice_get rules m)

-- the input's body for an entry that begins an update
abbrev pub body_in : List PlainRule → Book → Entry → List Term
body_in rules book (entry.Scope i r (chosen.Rule name n)) = body_named rules book name ∷ []
body_in rules book _ = []

-- the bodies of a trace's updates, as the mended bundle plays it from a state
abbrev pub bodies_from : List PlainRule → Setting → State → List Entry → List Term
bodies_from rules d S [] = []
bodies_from rules d S (e ∷ es) =
    body_in rules S.book e
    ++ option_map_or (λ next. bodies_from rules d next es) (follow d S e) []

-- the trace of the input that a trace of the mended bundle stands for
abbrev pub trace_before : PlainBundle → PlainBundle → List Entry → List Entry
trace_before b d es =
    lessened (original b.cast b.choreo (bodies_from b.rules (setting d) (play_start d) es)) es

-- each change of the script may come at once
abbrev pub untimed : Timed → Timed
untimed timed = record { after = 0; change = timed.change }

abbrev pub at_once : PlainBundle → PlainBundle
at_once b = record b { script = map untimed b.script }

-- a bundle whose texts are marked and name nothing that begins with `sq_`
pub record IsMendableRule (rule : PlainRule) : Type 0 where
  pub marks : rule.body ≡ indexed rule.body
  pub free : taken_name rule.body ≡ None
  pub condition : taken_variable rule.cond ≡ None

pub record IsMendable (b : PlainBundle) : Type 0 where
  pub cast : b.cast ≡ cast_of b.choreo
  pub marks : b.choreo ≡ indexed b.choreo
  pub free : taken_name b.choreo ≡ None
  pub rules : All IsMendableRule b.rules

-- a rule with its body mended over a cast
abbrev pub mended_rule : List Role → PlainRule → PlainRule
mended_rule cast rule = record rule { body = mended cast rule.body }

-- the bundle mended: its choreography and each rule's body, over its cast; its own cast is that of
-- the mended choreography
abbrev pub mended_bundle : PlainBundle → PlainBundle
mended_bundle b = record b {
  cast = cast_of (mended b.cast b.choreo);
  choreo = mended b.cast b.choreo;
  rules = map (mended_rule b.cast) b.rules;
}

-- a trace that the mended bundle plays, without the entries of added messages and with each index
-- carried back, is played by the input with its changes at once
abbrev pub PlaysWithout : Type 0
PlaysWithout = (b : PlainBundle) (es : List Entry) → IsMendable b
    → IsSome (play (mended_bundle b) es)
    → IsSome (play (at_once b) (trace_before b (mended_bundle b) es))
