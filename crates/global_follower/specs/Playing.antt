-- What a program's values say of how an entry is played.
use Rattle.std.specs.Prelude.{Bool, true, false, Option, Some, None}
use Rattle.dioc_terms.specs.Attempts.{Attempt, Stuck, Does}
use Rattle.dioc_terms.specs.Terms as terms
use Rattle.dioc_terms.specs.Terms.{Term, If, While, Scope}
use Rattle.global_follower.specs.declared.effects.Effect.{Effect as KeptEffect}
use Rattle.global_follower.specs.declared.plays.Played.{Played}
use Rattle.global_follower.specs.declared.plays.Scene.{Scene}
use Rattle.global_follower.specs.declared.plays.Stand.{Stand}
use Rattle.global_follower.specs.declared.plays.Stand.TheVariants as stands
use Rattle.global_follower.specs.declared.running.Running.{Running as KeptRunning}
use Rattle.global_follower.specs.declared.running.Running as kept
use Rattle.global_follower.specs.KeptBooks.{book_of, rules_of}
use Rattle.global_follower.specs.KeptRunning.{running}
use Rattle.global_follower.specs.KeptEffects.{effect_of}
use Rattle.global_follower.specs.KeptStores.{stores_of}
use Rattle.global_steps.specs.Follow.{Effect, book_choice, plays}
use Rattle.global_steps.specs.Running.{Running, Seq, Par, ended}

-- how what is left plays the entry of the scene
abbrev pub plays_in : Scene → Running → Attempt Effect Running
plays_in scene G =
    plays scene.rules.bundle.now.cast (stores_of scene.stores.now)
    (λ head. book_choice (rules_of scene.rules) (book_of scene.book.now) head
    (stores_of scene.stores.now head.leader))
    scene.updates G scene.entry.now

-- the effect and what is left where the entry is played
abbrev pub attempt_if : Bool → KeptEffect → Running → Attempt Effect Running
attempt_if false effect G = Stuck
attempt_if true effect G = Does (effect_of effect) G

-- nothing is done, or the effect and what is left
abbrev pub attempt_of : Option Played → Attempt Effect Running
attempt_of None = Stuck
attempt_of (Some played) = Does (effect_of played.effect) (running played.left)

-- a part that stands so beside the part H
abbrev pub beside : Stand → Running → Running → Running
beside stands.First H = λ G. Seq G H
beside stands.Second H = Seq H
beside stands.Left H = λ G. Par G H
beside stands.Right H = Par H

-- no part of it plays an entry before it: a leaf, or a loop whose turn has ended
abbrev pub plays_itself : KeptRunning → Bool
plays_itself (kept.Seq' _ G _ H) = false
plays_itself (kept.Par' _ G _ H) = false
plays_itself (kept.Bar' scope _ G) = false
plays_itself (kept.Again' turn _ G) = ended (running G)
plays_itself _ = true

-- the first, and then the second
abbrev pub is_sequence : KeptRunning → Bool
is_sequence (kept.Seq' _ G _ H) = true
is_sequence _ = false

-- a choice, a loop or a scope
abbrev pub is_branching : Term → Bool
is_branching (If i r g I J) = true
is_branching (While i r g I) = true
is_branching (Scope i r I extra props level) = true
is_branching _ = false

-- neither a sequence nor a parallel
abbrev pub is_whole : Term → Bool
is_whole (terms.Seq I J) = false
is_whole (terms.Par I J) = false
is_whole _ = true
