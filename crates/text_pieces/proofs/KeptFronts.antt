-- What stands in front stays there.
use Rattle.std.proofs.Common.{◌≡◌, ℕ, Result, Ok, Err, OnOk, OnErr, List, ◌++◌, length, take, ◌≤◌, refl, ◌∙◌, ap, sym, subst, arith}
use Rattle.std.proofs.lemmas.List.{take-take, length-append}
use Rattle.std.proofs.Math.Seq.{take-append_seam}
use Rattle.text_pieces.specs.Pieces.{KeepsFront}

-- the front of a front: where bytes keep `old ++ more` in front, they keep `old`. Its first part shows `grind` what to match
pub front_of_front : (old more bytes : List ℕ) → KeepsFront (old ++ more) bytes → (take (length (old ++ more)) bytes ≡ take (length (old ++ more)) bytes) × KeepsFront old bytes
front_of_front old more bytes kept =
    let within : length old ≤ length (old ++ more) = omega (arith, length-append old more) in
    (refl, sym (take-take (length old) (length (old ++ more)) bytes within) ∙ ap (take (length old)) kept ∙ take-append_seam old more)

-- the same at bytes that are equal to `old ++ more`
pub front_after : (old more middle bytes : List ℕ) → middle ≡ old ++ more → KeepsFront middle bytes → KeepsFront old bytes
front_after old more middle bytes e kept = (front_of_front old more bytes (subst (λ front. KeepsFront front bytes) e kept)).1

-- the same of what a writer leaves that has run out of memory
pub err_front : {A E : Type 0} (old more middle : List ℕ) (result : Result A E) (bytes : List ℕ) → middle ≡ old ++ more → OnErr result (KeepsFront middle bytes) → OnErr result (KeepsFront old bytes)
err_front old more middle (Ok value) bytes is kept = tt
err_front old more middle (Err fault) bytes is kept = front_after old more middle bytes is kept

-- what a writer of a whole text has appended, when what a refusal left is cut off: its pieces are the text that is shown
pub whole_text : {A E : Type 0} (written result : Result A E) (old middle new text shown : List ℕ) → result ≡ written → text ≡ shown → OnOk written (middle ≡ old ++ text) → OnOk result (new ≡ middle) → OnOk result (new ≡ old ++ shown)
whole_text written (Ok value) old middle new text shown same is wrote kept = kept ∙ subst (λ w. OnOk w (middle ≡ old ++ text)) (sym same) wrote ∙ ap (λ t. old ++ t) is
whole_text written (Err fault) old middle new text shown same is wrote kept = tt
