use Rattle.std.proofs.Common.{◌≡◌, ◌≤◌, length, take}
use Rattle.exh_stores.specs.PageStore.{TakesTheSame}
use Rattle.exh_ward.specs.FromPages.{pairs_of}
use Rattle.exh_ward.proofs.ward.history.read_base.Given as goal

-- the pairs of the pages so far
abbrev pub invariant-loop-number : goal.invariant-loop-number
invariant-loop-number g l = record {
  within : l.number ≤ length (g.P.Pages.pages l.fn.store);
  pairs : l.pairs ≡ pairs_of (take l.number (g.P.Pages.pages l.fn.store));
  pages : g.P.Pages.pages l.store ≡ g.P.Pages.pages l.fn.store;
  failures : g.P.Pages.failures l.store ≡ g.P.Pages.failures l.fn.store;
  takes : TakesTheSame g.P.Pages.takes l.fn.store l.store;
}
