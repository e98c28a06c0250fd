-- What the laws say of a choreography that is mended.
use Rattle.std.proofs.Common.{◌≡◌, List, [], None, sym, ap, ◌∙◌}
use Rattle.dioc_terms.specs.declared.names.Role.{Role}
use Rattle.dioc_terms.specs.Terms.{Term, is_in, self_messages, indexed}
use Rattle.connectedness.specs.Connected.{connected}
use Rattle.connectedness.specs.Laws.{HasRoles}
use Rattle.mend.specs.Calls.{IsMendedFrom}
use Rattle.mend.specs.Dropped.{dropped}
use Rattle.mend.specs.Laws.{MendedConnected, DropsToInput}
use Rattle.mend.specs.Mended.{relinked, with_numbers, mended}
use Rattle.mend.specs.Names.{taken_name}
use Rattle.mend.proofs.Erased.{indexed_twice}

pub mended_from : MendedConnected → DropsToInput → (cast : List Role) (I made : Term) → I ≡ indexed I → HasRoles cast I → self_messages I ≡ []
    → taken_name I ≡ None → made ≡ mended cast I → IsMendedFrom cast I made
mended_from connects drops cast I made marks has none free is = record {
  mended = is;
  marks = is ∙ sym (indexed_twice 0 (with_numbers 0 (relinked cast I))) ∙ ap indexed (sym is);
  connected = ap connected is ∙ connects.links cast I has;
  same_roles = λ q. ap (is_in q) is ∙ connects.same_roles cast I q;
  no_self_message = ap self_messages is ∙ connects.no_self_message cast I none;
  drops = ap (λ T. indexed (dropped T)) is ∙ drops cast I marks free;
  free = free;
}
