-- Each test of equality decides `≡`, and so is an equivalence that a hasher may use.
use Rattle.std.specs.Prelude.{◌≡◌, refl, ℕ, List, Bool, true, false, ◌&&◌, ◌==◌, Option, Some, None}
use Rattle.std.specs.Bool.{Decides}
use Rattle.std.specs.Ordering.{int_eq}
use Rattle.std.specs.Str.{bytes_eq}
use Rattle.std.specs.Cmp.{IsEquivalence}
use Rattle.std.specs.Hash.{HashWrites}
use Rattle.std.proofs.Common.{sym, ap}
use Rattle.std.proofs.lemmas.Bool.Decides.{Decides-eqb, Decides-int_eq, Decides-and, Decides-like}
use Rattle.std.proofs.lemmas.Slice.Eq.{bytes_eq-Decides}
use Rattle.dioc_terms.specs.declared.names.Role.{Role}
use Rattle.dioc_terms.specs.declared.names.Index.{Index}
use Rattle.dioc_terms.specs.declared.values.Value.{Value}
use Rattle.dioc_terms.specs.declared.values.Value.TheVariants as value
use Rattle.dioc_terms.specs.declared.processes.Tag.{Tag}
use Rattle.dioc_terms.specs.declared.processes.Tag.TheVariants.{Op, Choice, Go, Turn, Begin, End, Out}
use Rattle.dioc_terms.specs.declared.processes.Key.{Key}
use Rattle.dioc_terms.specs.declared.entries.Note.{Note}
use Rattle.dioc_terms.specs.declared.entries.Note.TheVariants as note
use Rattle.dioc_terms.specs.declared.entries.Chosen.{Chosen}
use Rattle.dioc_terms.specs.declared.entries.Chosen.TheVariants as chosen
use Rattle.dioc_terms.specs.declared.entries.Entry.{Entry}
use Rattle.dioc_terms.specs.declared.entries.Entry.TheVariants as entry
use Rattle.dioc_terms.specs.declared.entries.Act.{Act}
use Rattle.dioc_terms.specs.declared.entries.Act.TheVariants as act
use Rattle.dioc_terms.specs.Equality.{truth_eq, name_eq, role_eq, index_eq, tag_eq, key_eq, value_eq, note_eq, chosen_eq, variable_eq, entry_eq, act_eq}
use Rattle.dioc_terms.specs.EqualityLaws.{DecidesEquality, EqualityDecides}

-- tests that hold one where the other does have one answer
pub same_truth : (s t : Bool) → (s ≡ true → t ≡ true) → (t ≡ true → s ≡ true) → s ≡ t
same_truth true t f g = sym (f refl)
same_truth false true f g = g refl
same_truth false false f g = refl

-- a test that decides `≡` is an equivalence
pub equivalence_from_Decides : {A : Type 0} (test : A → A → Bool) → DecidesEquality A test
    → IsEquivalence test
equivalence_from_Decides test d = record {
  refl = λ a. (d a a).1 refl;
  symm =
      λ a b. same_truth (test a b) (test b a) (λ h. (d b a).1 (sym ((d a b).0 h)))
      (λ h. (d a b).1 (sym ((d b a).0 h)));
  congr = λ a b c h. ap (λ x. test x c) ((d a b).0 h);
}

-- where the test decides `≡`, what it finds equal is fed alike to a hasher
pub fed_alike : {A : Type 0} (test : A → A → Bool) → DecidesEquality A test → (F : A → HashWrites)
    → (a b : A) → test a b ≡ true → F a ≡ F b
fed_alike test d F a b h = ap F ((d a b).0 h)

pub truth_eq-decides : DecidesEquality Bool truth_eq
truth_eq-decides true b = (λ h. sym h, λ h. sym h)
truth_eq-decides false true = (λ h. cc, λ h. cc)
truth_eq-decides false false = (λ h. refl, λ h. refl)

pub name_eq-decides : DecidesEquality (List ℕ) name_eq
name_eq-decides = bytes_eq-Decides

pub role_eq-decides : DecidesEquality Role role_eq
role_eq-decides a b =
    Decides-like (role_eq a b) (λ e i. record { 0 = e i }) (λ e. ap (λ (r : Role). r.0) e)
    (name_eq-decides a.0 b.0)

pub index_eq-decides : DecidesEquality Index index_eq
index_eq-decides a b =
    Decides-like (index_eq a b) (λ e i. record { epoch = e.0 i; place = e.1 i })
    (λ e. (ap (λ (x : Index). x.epoch) e, ap (λ (x : Index). x.place) e))
    (Decides-and _ _ (Decides-eqb a.epoch b.epoch) (Decides-eqb a.place b.place))

pub tag_eq-decides : DecidesEquality Tag tag_eq
tag_eq-decides (Op a) (Op b) = Decides-like (name_eq a b) (ap Op) (λ e. cc) (name_eq-decides a b)
tag_eq-decides Choice Choice = (λ h. refl, λ h. refl)
tag_eq-decides Go Go = (λ h. refl, λ h. refl)
tag_eq-decides Turn Turn = (λ h. refl, λ h. refl)
tag_eq-decides Begin Begin = (λ h. refl, λ h. refl)
tag_eq-decides End End = (λ h. refl, λ h. refl)
tag_eq-decides Out Out = (λ h. refl, λ h. refl)
tag_eq-decides _ _ = (λ h. cc, λ h. cc)

pub key_eq-decides : DecidesEquality Key key_eq
key_eq-decides a b =
    Decides-like (key_eq a b)
    (λ e i. record { from = e.0.1 i; to = e.1 i; index = e.0.0.0 i; tag = e.0.0.1 i })
    (λ e. (
      ((ap (λ (k : Key). k.index) e, ap (λ (k : Key). k.tag) e), ap (λ (k : Key). k.from) e),
      ap (λ (k : Key). k.to) e,
    ))
    (Decides-and _ _ (Decides-and _ _ (Decides-and _ _ (index_eq-decides a.index b.index)
    (tag_eq-decides a.tag b.tag)) (role_eq-decides a.from b.from))
    (role_eq-decides a.to b.to))

pub value_eq-decides : DecidesEquality Value value_eq
value_eq-decides value.Nil value.Nil = (λ h. refl, λ h. refl)
value_eq-decides (value.Bool a) (value.Bool b) =
    Decides-like (truth_eq a b) (ap value.Bool) (λ e. cc) (truth_eq-decides a b)
value_eq-decides (value.Int a) (value.Int b) =
    Decides-like (int_eq a b) (ap value.Int) (λ e. cc) (Decides-int_eq a b)
value_eq-decides (value.Text a) (value.Text b) =
    Decides-like (bytes_eq a b) (ap value.Text) (λ e. cc) (bytes_eq-Decides a b)
value_eq-decides _ _ = (λ h. cc, λ h. cc)

pub note_eq-decides : DecidesEquality Note note_eq
note_eq-decides (note.Val a) (note.Val b) =
    Decides-like (value_eq a b) (ap note.Val) (λ e. cc) (value_eq-decides a b)
note_eq-decides (note.Flag a) (note.Flag b) =
    Decides-like (truth_eq a b) (ap note.Flag) (λ e. cc) (truth_eq-decides a b)
note_eq-decides note.Keep note.Keep = (λ h. refl, λ h. refl)
note_eq-decides (note.Part a) (note.Part b) =
    Decides-like (a == b) (ap note.Part) (λ e. cc) (Decides-eqb a b)
note_eq-decides note.Done note.Done = (λ h. refl, λ h. refl)
note_eq-decides _ _ = (λ h. cc, λ h. cc)

pub chosen_eq-decides : DecidesEquality Chosen chosen_eq
chosen_eq-decides chosen.Keep chosen.Keep = (λ h. refl, λ h. refl)
chosen_eq-decides (chosen.Rule a m) (chosen.Rule b n) =
    Decides-like (name_eq a b && (m == n)) (λ e. let p = e.0 in let q = e.1 in cc) (λ e. (cc, cc))
    (Decides-and _ _ (name_eq-decides a b) (Decides-eqb m n))
chosen_eq-decides _ _ = (λ h. cc, λ h. cc)

pub variable_eq-decides : DecidesEquality (Option (List ℕ)) variable_eq
variable_eq-decides None None = (λ h. refl, λ h. refl)
variable_eq-decides (Some a) (Some b) =
    Decides-like (name_eq a b) (ap Some) (λ e. cc) (name_eq-decides a b)
variable_eq-decides _ _ = (λ h. cc, λ h. cc)

-- an entry that sets a variable or reads an input
acted : (i j : Index) (p q : Role) (x y : List ℕ) (v w : Value)
    → Decides (index_eq i j && role_eq p q && name_eq x y && value_eq v w)
    ((((i ≡ j) × (p ≡ q)) × (x ≡ y)) × (v ≡ w))
acted i j p q x y v w =
    Decides-and _ _ (Decides-and _ _ (Decides-and _ _ (index_eq-decides i j) (role_eq-decides p q))
    (name_eq-decides x y)) (value_eq-decides v w)

pub entry_eq-decides : DecidesEquality Entry entry_eq
entry_eq-decides (entry.Put k a) (entry.Put l b) =
    Decides-like (key_eq k l && note_eq a b) (λ e. let p = e.0 in let q = e.1 in cc) (λ e. (cc, cc))
    (Decides-and _ _ (key_eq-decides k l) (note_eq-decides a b))
entry_eq-decides (entry.Take k x) (entry.Take l y) =
    Decides-like (key_eq k l && variable_eq x y) (λ e. let p = e.0 in let q = e.1 in cc)
    (λ e. (cc, cc)) (Decides-and _ _ (key_eq-decides k l) (variable_eq-decides x y))
entry_eq-decides (entry.Set i p x v) (entry.Set j q y w) =
    Decides-like (index_eq i j && role_eq p q && name_eq x y && value_eq v w)
    (λ e. let a = e.0.0.0 in let b = e.0.0.1 in let c = e.0.1 in let d = e.1 in cc)
    (λ e. (((cc, cc), cc), cc)) (acted i j p q x y v w)
entry_eq-decides (entry.Input i p x v) (entry.Input j q y w) =
    Decides-like (index_eq i j && role_eq p q && name_eq x y && value_eq v w)
    (λ e. let a = e.0.0.0 in let b = e.0.0.1 in let c = e.0.1 in let d = e.1 in cc)
    (λ e. (((cc, cc), cc), cc)) (acted i j p q x y v w)
entry_eq-decides (entry.Pick i p a) (entry.Pick j q b) =
    Decides-like (index_eq i j && role_eq p q && truth_eq a b)
    (λ e. let f = e.0.0 in let g = e.0.1 in let h = e.1 in cc) (λ e. ((cc, cc), cc))
    (Decides-and _ _ (Decides-and _ _ (index_eq-decides i j) (role_eq-decides p q))
    (truth_eq-decides a b))
entry_eq-decides (entry.Scope i p a) (entry.Scope j q b) =
    Decides-like (index_eq i j && role_eq p q && chosen_eq a b)
    (λ e. let f = e.0.0 in let g = e.0.1 in let h = e.1 in cc) (λ e. ((cc, cc), cc))
    (Decides-and _ _ (Decides-and _ _ (index_eq-decides i j) (role_eq-decides p q))
    (chosen_eq-decides a b))
entry_eq-decides (entry.Add a) (entry.Add b) =
    Decides-like (name_eq a b) (ap entry.Add) (λ e. cc) (name_eq-decides a b)
entry_eq-decides (entry.Drop a) (entry.Drop b) =
    Decides-like (name_eq a b) (ap entry.Drop) (λ e. cc) (name_eq-decides a b)
entry_eq-decides (entry.Env a v) (entry.Env b w) =
    Decides-like (name_eq a b && value_eq v w) (λ e. let p = e.0 in let q = e.1 in cc)
    (λ e. (cc, cc)) (Decides-and _ _ (name_eq-decides a b) (value_eq-decides v w))
entry_eq-decides _ _ = (λ h. cc, λ h. cc)

pub act_eq-decides : DecidesEquality Act act_eq
act_eq-decides (act.Put k) (act.Put l) =
    Decides-like (key_eq k l) (ap act.Put) (λ e. cc) (key_eq-decides k l)
act_eq-decides (act.Take k) (act.Take l) =
    Decides-like (key_eq k l) (ap act.Take) (λ e. cc) (key_eq-decides k l)
act_eq-decides (act.Set i) (act.Set j) =
    Decides-like (index_eq i j) (ap act.Set) (λ e. cc) (index_eq-decides i j)
act_eq-decides (act.Input i) (act.Input j) =
    Decides-like (index_eq i j) (ap act.Input) (λ e. cc) (index_eq-decides i j)
act_eq-decides (act.Pick i) (act.Pick j) =
    Decides-like (index_eq i j) (ap act.Pick) (λ e. cc) (index_eq-decides i j)
act_eq-decides (act.Scope i) (act.Scope j) =
    Decides-like (index_eq i j) (ap act.Scope) (λ e. cc) (index_eq-decides i j)
act_eq-decides _ _ = (λ h. cc, λ h. cc)

pub equality-decides : EqualityDecides
equality-decides = record {
  truth = truth_eq-decides;
  name = name_eq-decides;
  role = role_eq-decides;
  index = index_eq-decides;
  tag = tag_eq-decides;
  key = key_eq-decides;
  value = value_eq-decides;
  note = note_eq-decides;
  chosen = chosen_eq-decides;
  variable = variable_eq-decides;
  entry = entry_eq-decides;
  act = act_eq-decides;
}
