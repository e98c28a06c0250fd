-- The lines and boxes of the lanes stand behind the opening, one lane after the other.
use Rattle.std.proofs.Common.{◌≡◌, ℕ, List, ◌++◌, ◌∙◌, ap, refl, append_assoc, arith}
use Rattle.dioc_terms.specs.declared.names.Role.{Role}
use Rattle.text_pieces.proofs.KeptFronts.{front_after}
use Rattle.trace_picture.specs.Svg.{width, height, row_y, lane_x, svg_open, lane_line, name_box, svg_lane}
use Rattle.trace_picture.proofs.Repeats.{pieces_from_step, still_front}
use Rattle.trace_picture.proofs.svg.write_head.Goals as goal

-- what stands there when the line of a lane is written and then its box
lane_drawn : (columns lane x floor low : ℕ) (r : Role) (old middle new : List ℕ) → middle ≡ old ++ lane_line x floor → new ≡ middle ++ name_box columns 12 lane r →
    x ≡ lane_x columns lane → floor ≡ low → new ≡ old ++ svg_lane columns low lane r
unfolding svg_lane
lane_drawn columns lane x floor low r old middle new line box at down =
    box ∙ ap (λ m. m ++ name_box columns 12 lane r) line ∙ append_assoc old (lane_line x floor) (name_box columns 12 lane r)
    ∙ ap (λ p. old ++ (lane_line p floor ++ name_box columns 12 lane r)) at
    ∙ ap (λ f. old ++ (lane_line (lane_x columns lane) f ++ name_box columns 12 lane r)) down

pub loop-lane-preserved : goal.loop-lane-preserved
loop-lane-preserved c =
    pieces_from_step (svg_lane c.args.frame.now.columns (row_y c.args.rows)) c.args.frame.now.lanes.now c.loop-lane.lane c.role-item.result (c.args.out.now.items ++ svg_open (width c.args.frame.now.columns c.args.frame.now.lanes.now) (height c.args.rows)) c.loop-lane.out.items c.write_box.new.out.items
    (omega arith) c.role-item.is c.loop-lane.invariant
    (lane_drawn c.args.frame.now.columns c.loop-lane.lane _ _ (row_y c.args.rows) c.role-item.result c.loop-lane.out.items c.write_lane_line.new.out.items c.write_box.new.out.items
    c.in_ok-write_lane_line.ensures.ok c.in_ok-write_box.ensures.ok c.lane_x.ensures.value c.row_y-floor.ensures.value)

pub returns-in_err-write_lane_line-clause-memory : goal.returns-in_err-write_lane_line-clause-memory
returns-in_err-write_lane_line-clause-memory c = still_front _ _ _ _ _ refl (front_after _ _ _ _ c.loop-lane.invariant c.in_err-write_lane_line.ensures.memory)

pub returns-in_err-write_box-clause-memory : goal.returns-in_err-write_box-clause-memory
returns-in_err-write_box-clause-memory c =
    still_front _ _ _ _ _ refl (front_after _ _ _ _ c.loop-lane.invariant (front_after _ _ _ _ c.in_ok-write_lane_line.ensures.ok c.in_err-write_box.ensures.memory))
