-- The tests of roles, indices, keys, entries and acts: each holds of a thing and itself, and of nothing else.
use Rattle.std.proofs.Common.{◌≡◌, true, ◌&&◌, refl}
use Rattle.std.proofs.lemmas.Bool.{and_parts}
use Rattle.dioc_terms.specs.declared.names.Role.{Role}
use Rattle.dioc_terms.specs.declared.names.Index.{Index}
use Rattle.dioc_terms.specs.declared.processes.Key.{Key}
use Rattle.dioc_terms.specs.declared.entries.Entry.{Entry}
use Rattle.dioc_terms.specs.declared.entries.Act.{Act}
use Rattle.dioc_terms.specs.Equality.{role_eq, index_eq, tag_eq, key_eq, entry_eq, act_eq}
use Rattle.dioc_terms.specs.EqualityLemmas.{role_eq-decides, index_eq-decides, key_eq-decides, entry_eq-decides, act_eq-decides}

pub role_same : (a b : Role) → role_eq a b ≡ true → a ≡ b
role_same a b h = (role_eq-decides a b).0 h

pub role_itself : (a : Role) → role_eq a a ≡ true
role_itself a = (role_eq-decides a a).1 refl

pub index_same : (a b : Index) → index_eq a b ≡ true → a ≡ b
index_same a b h = (index_eq-decides a b).0 h

-- the parts of the test of keys
pub record KeyParts (a b : Key) : Type 0 where
  pub from : role_eq a.from b.from ≡ true
  pub to : role_eq a.to b.to ≡ true
  pub index : index_eq a.index b.index ≡ true
  pub tag : tag_eq a.tag b.tag ≡ true

pub key_parts : (a b : Key) → key_eq a b ≡ true → KeyParts a b
key_parts a b h =
    let last = and_parts ((index_eq a.index b.index && tag_eq a.tag b.tag) && role_eq a.from b.from) (role_eq a.to b.to) h in
    let third = and_parts (index_eq a.index b.index && tag_eq a.tag b.tag) (role_eq a.from b.from) last.0 in
    let what = and_parts (index_eq a.index b.index) (tag_eq a.tag b.tag) third.0 in
    record { from = third.1; to = last.1; index = what.0; tag = what.1 }

pub key_same : (a b : Key) → key_eq a b ≡ true → a ≡ b
key_same a b h = (key_eq-decides a b).0 h

pub key_itself : (a : Key) → key_eq a a ≡ true
key_itself a = (key_eq-decides a a).1 refl

pub act_same : (a b : Act) → act_eq a b ≡ true → a ≡ b
act_same a b h = (act_eq-decides a b).0 h

pub act_itself : (a : Act) → act_eq a a ≡ true
act_itself a = (act_eq-decides a a).1 refl

pub entry_same : (a b : Entry) → entry_eq a b ≡ true → a ≡ b
entry_same a b h = (entry_eq-decides a b).0 h

pub entry_itself : (a : Entry) → entry_eq a a ≡ true
entry_itself a = (entry_eq-decides a a).1 refl
