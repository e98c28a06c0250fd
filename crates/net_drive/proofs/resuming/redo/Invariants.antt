-- The history is that of the entries so far.
use Rattle.std.proofs.Common.{◌≡◌, ◌≤◌, ◌++◌, drop, length}
use Rattle.net_core.specs.Nets.{IsSoundRun}
use Rattle.net_drive.proofs.resuming.redo.Given as goal

abbrev pub invariant-loop-entry : goal.invariant-loop-entry
invariant-loop-entry g l =
    record {
      splits : l.net.history ++ drop l.entry-index l.entries ≡ l.entries;
      number : l.number ≡ l.entry-index;
      count : length l.net.history ≡ l.entry-index;
      within : l.entry-index ≤ l.net.limit;
      bundle : l.net.bundle ≡ l.fn.net.bundle;
      limit : l.net.limit ≡ l.fn.net.limit;
      run : IsSoundRun l.net;
    }
