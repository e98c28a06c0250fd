-- A chunk may go from one thread to another, and each thread answers a chunk of the text.
use Rattle.std.proofs.Common.{rules, IfOk, get_or, sym, ◌∙◌, arith}
use Rattle.std.proofs.lemmas.List.Elements.{recursion_from_All}
use denote.Param.Send.{sendable}
use Rattle.std.proofs.Crossing.{crosses}
use Rattle.bundle_text.specs.SessionReaders.{IsChunkIn}
use Rattle.bundle_text.proofs.Sent.{bundle_send}
use Rattle.bundle_text.proofs.chunks.sessions_in_chunks.Goals as goal

pub map_indices-requires-send-X : goal.map_indices-requires-send-X
map_indices-requires-send-X g c κs within = search (bundle_send, crosses, sendable) depth 60 fits 20000

pub join_chunks-requires : goal.join_chunks-requires
join_chunks-requires g c =
    let chunks = c.in_ok-chunks.chunks.items in
    recursion_from_All (λ chunk. IfOk chunk (IsChunkIn c.args.text.now)) chunks (λ k d lt.
    let as_many = sym c.in_ok-chunks.ensures.len ∙ c.in_ok-chunks.chunks.ok.0 in
    let ran : IfOk (get_or chunks k d) (IsChunkIn c.args.text.now) = (let call = (c.in_ok-chunks.ensures.each k d (omega (arith, as_many, lt))).1 in search rules) in
    ran)
