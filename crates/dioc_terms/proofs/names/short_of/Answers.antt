use Rattle.std.proofs.Common.{◌≡◌, ℕ, ◌+◌, ◌-◌, ◌<◌, List, [], ◌∷◌, ◌++◌, length, get_or, take, drop, replicate, set, ap, sym, ◌∙◌, add-one, arith}
use Rattle.std.proofs.Math.Seq.{take-suc, take-length}
use Rattle.std.proofs.lemmas.List.{take_more_set, length-set, drop-set-lt, drop-drop, drop-replicate}
use Rattle.dioc_terms.proofs.names.short_of.Goals as goal

-- one byte more
copied_further : (short bytes : List ℕ) (place : ℕ) → place < length short → place < length bytes → take place short ≡ take place bytes
    → take (place + 1) (set short place (get_or bytes place 0)) ≡ take (place + 1) bytes
copied_further short bytes place room within same =
    take_more_set short place (get_or bytes place 0) room
    ∙ ap (λ front. front ++ get_or bytes place 0 ∷ []) same
    ∙ sym (ap (λ n. take n bytes) (add-one place) ∙ take-suc bytes place 0 within)

-- zeros stand behind one byte more
zeros_further : (short : List ℕ) (place byte : ℕ) → place < length short → drop place short ≡ replicate (14 - place) 0
    → drop (place + 1) (set short place byte) ≡ replicate (14 - (place + 1)) 0
zeros_further short place byte room zeros =
    drop-set-lt (place + 1) short place byte (omega arith)
    ∙ sym (drop-drop 1 place short)
    ∙ ap (drop 1) zeros
    ∙ drop-replicate 1 (14 - place) 0
    ∙ ap (λ n. replicate n 0) (omega arith)

pub loop-place-preserved : goal.loop-place-preserved
loop-place-preserved c =
    let here = c.loop-place in
    let byte = get_or c.args.bytes.now here.place 0 in
    record {
      same = copied_further here.short c.args.bytes.now here.place (omega arith) c.loop-place-test.true here.invariant.same;
      many = length-set here.short here.place byte ∙ here.invariant.many;
      zeros = zeros_further here.short here.place byte (omega arith) here.invariant.zeros;
    }

pub returns-clause-same : goal.returns-clause-same
returns-clause-same c =
    let here = c.loop-place in
    let done : length c.args.bytes.now ≡ here.place = omega arith in
    ap (λ n. take n here.short) done ∙ here.invariant.same ∙ ap (λ n. take n c.args.bytes.now) (sym done) ∙ take-length c.args.bytes.now

pub returns-clause-kept : goal.returns-clause-kept
returns-clause-kept c =
    let here = c.loop-place in
    let done : length c.args.bytes.now ≡ here.place = omega arith in
    (omega arith, ap (λ n. drop n here.short) done ∙ here.invariant.zeros ∙ ap (λ n. replicate (14 - n) 0) (sym done))
