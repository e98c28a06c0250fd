-- The line is that of the run that the schedule takes of the made bundle.
use Rattle.std.proofs.Common.{◌≡◌, ◌↔◌, length, true, false, None, ◌∙◌, subst, arith}
use Rattle.dioc_terms.specs.Plain.{PlainBundle, plain}
use Rattle.network_steps.specs.Network.{network_ended}
use Rattle.network_steps.specs.Schedule.{sched_from}
use Rattle.net_core.specs.Nets.{network_at}
use Rattle.rule_checks.specs.Refusals.{IsAccepted}
use Rattle.load_gen.specs.Made.{made}
use Rattle.schedule.specs.declared.runs.Finish.TheVariants as finish
use Rattle.aioc_top.specs.Replies.{gen_history, gen_line, line_of_text}
use Rattle.aioc_top.proofs.Printing.{gen_replied}
use Rattle.aioc_top.proofs.Projected.{few_nodes}
use Rattle.aioc_top.proofs.commands.generate.run_made.Goals as goal

pub start-requires : goal.start-requires
start-requires c = c.accepted_is_sound.ensures (plain c.args.bundle.now) c.requires.accepted

pub make_line-line-requires : goal.make_line-line-requires
make_line-line-requires c = omega (arith, few_nodes (plain c.args.bundle.now) c.requires.accepted)

pub returns-in_ok-line-in-Ok : goal.returns-in_ok-line-in-Ok
returns-in_ok-line-in-Ok c =
    let b = made c.args.number c.args.size in
    let new = c.run_seeded.new.net in
    let how = c.in-Ok.finish in
    let ran = c.in-Ok.ensures in
    let began = c.in_ok-net.ensures in
    let owner : new.bundle ≡ b = ran.same_bundle ∙ began.bundle ∙ c.requires.made in
    let same : new.history ≡ gen_history c.args.number c.args.size =
    ran.history ∙ (λ j. sched_from ((began.bundle ∙ c.requires.made) j) (began.history j) None (began.limit j)) in
    let ended : (how ≡ finish.Ended) ↔ (network_ended b.cast (network_at b new.history) ≡ true) =
    subst (λ (of : PlainBundle). (how ≡ finish.Ended) ↔ (network_ended of.cast (network_at of new.history) ≡ true)) owner ran.ended in
    let limit : (how ≡ finish.Limit) ↔ ((length new.history ≡ new.limit) × (network_ended b.cast (network_at b new.history) ≡ false)) =
    subst (λ (of : PlainBundle). (how ≡ finish.Limit) ↔ ((length new.history ≡ new.limit) × (network_ended of.cast (network_at of new.history) ≡ false))) owner ran.limit in
    let written = c.in_ok-line-in-Ok.ensures ∙ (λ j. line_of_text (gen_line c.args.number c.args.size (c.requires.made j) new.history (network_at (owner j) new.history).updates)) in
    gen_replied c.args.number c.args.size (subst IsAccepted c.requires.made c.requires.accepted) c.runs_are_sound.ensures new.history how
    (record { end = c.end_of.result; text = c.in_ok-line-in-Ok.field-0 }) same ended limit c.end_of.ensures written
