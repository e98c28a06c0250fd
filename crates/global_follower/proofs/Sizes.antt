-- How many parts that hold others a running term has.
use Rattle.std.specs.Prelude.{ℕ, suc, ◌+◌}
use Rattle.global_follower.specs.declared.running.Running.{Running}
use Rattle.global_follower.specs.declared.running.Running as kept

abbrev pub parts : Running → ℕ
parts (kept.Seq' _ G _ H) = suc (parts G + parts H)
parts (kept.Par' _ G _ H) = suc (parts G + parts H)
parts (kept.Bar' scope _ G) = suc (parts G)
parts (kept.Again' turn _ G) = suc (parts G)
parts _ = 0
