-- Pending messages that agree with a mark agree with its parts, and with the own messages of a construct.
use Rattle.std.proofs.Common.{◌≡◌, Option, sym, ap, ◌∙◌, subst, inl, inr}
use Rattle.dioc_terms.specs.declared.names.Index.{Index}
use Rattle.dioc_terms.specs.declared.processes.Key.{Key}
use Rattle.dioc_terms.specs.Processes.{Load}
use Rattle.dioc_terms.specs.Terms.{Term}
use Rattle.marked_laws.proofs.Constructs.{Phases, Kind, index, whole, own_mail}
use Rattle.marked_laws.proofs.Mark.{Mark, Still, First, Second, Both, Held, mail, first_of_two, At}
use Rattle.marked_laws.proofs.Keeps.{index_in}
use Rattle.marked_laws.proofs.Mails.{own_absent, mail_absent, first_then_none}
use Rattle.marked_laws.proofs.MarkSteps.{Agrees}
use Rattle.marked_laws.proofs.Proper.{Within}

module _ (mails : Key → Option Load) where
  pub agrees_first : (M : Mark) (J : Term) → Agrees mails (First M J) → Agrees mails M
  agrees_first M J agrees j at = agrees j (inl at)

  pub agrees_next : (M : Mark) (J : Term) → ((n : Index) → At n M → Within n J → ⊥) → Agrees mails (First M J) → Agrees mails (Still J)
  agrees_next M J apart agrees j at = agrees j (inr at) ∙ mail_absent M j (λ h. apart j.index h at)

  left_part : (M N : Mark) (j : Key) → (At j.index N → ⊥) → first_of_two (mail M j) (mail N j) ≡ mail M j
  left_part M N j away = ap (first_of_two (mail M j)) (mail_absent N j away) ∙ first_then_none (mail M j)

  right_part : (M N : Mark) (j : Key) → (At j.index M → ⊥) → first_of_two (mail M j) (mail N j) ≡ mail N j
  right_part M N j away = ap (λ m. first_of_two m (mail N j)) (mail_absent M j away)

  pub agrees_second : (M N : Mark) → ((n : Index) → At n M → At n N → ⊥) → Agrees mails (Second M N) → Agrees mails M × Agrees mails N
  agrees_second M N apart agrees = (
    λ j at. agrees j (inl at) ∙ left_part M N j (λ h. apart j.index at h),
    λ j at. agrees j (inr at) ∙ right_part M N j (λ h. apart j.index h at),
  )

  pub agrees_both : (M N : Mark) → ((n : Index) → At n M → At n N → ⊥) → Agrees mails (Both M N) → Agrees mails M × Agrees mails N
  agrees_both M N apart agrees = (
    λ j at. agrees j (inl at) ∙ left_part M N j (λ h. apart j.index at h),
    λ j at. agrees j (inr at) ∙ right_part M N j (λ h. apart j.index h at),
  )

  module _ (k : Kind) (phases : Phases) (M : Mark) (own : At (index k) M → ⊥) (agrees : Agrees mails (Held k phases M)) where
    -- the messages of a construct's body, and its own
    pub agrees_inside : Agrees mails M
    agrees_inside j at =
        agrees j (inr at) ∙ ap (λ m. first_of_two m (mail M j)) (own_absent k phases j (λ h. own (subst (λ n. At n M) h at)))

    pub own_given : (j : Key) → j.index ≡ index k → mails j ≡ own_mail k phases j
    own_given j is =
        agrees j (inl (subst (λ n. Within n (whole k)) (sym is) (index_in k)))
        ∙ ap (first_of_two (own_mail k phases j)) (mail_absent M j (λ h. own (subst (λ n. At n M) is h)))
        ∙ first_then_none (own_mail k phases j)
