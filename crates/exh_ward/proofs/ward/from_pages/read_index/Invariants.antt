use Rattle.std.proofs.Common.{◌≡◌, take}
use Rattle.exh_stores.specs.PageStore.{TakesTheSame}
use Rattle.exh_legal.specs.Pages.{bare}
use Rattle.exh_legal.specs.PageIndex.{IsIndexOf}
use Rattle.exh_ward.proofs.ward.from_pages.read_index.Given as goal

-- the index of the pages so far
abbrev pub invariant-loop-number : goal.invariant-loop-number
invariant-loop-number g l = record {
  index : IsIndexOf l.index (bare (take l.number (g.P.Pages.pages l.fn.store)));
  pages : g.P.Pages.pages l.store ≡ g.P.Pages.pages l.fn.store;
  failures : g.P.Pages.failures l.store ≡ g.P.Pages.failures l.fn.store;
  takes : TakesTheSame g.P.Pages.takes l.fn.store l.store;
}
