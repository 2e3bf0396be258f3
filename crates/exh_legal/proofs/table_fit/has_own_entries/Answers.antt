use Rattle.std.proofs.Common.{refl, sym, ◌∙◌, subst}
use Rattle.std.proofs.lemmas.Bool.{false≢true}
use Rattle.exh_legal.specs.BuiltIndex.{IsOwnEntry}
use Rattle.exh_legal.proofs.Entries.{all_entries, each_entry}
use Rattle.exh_legal.proofs.Fits.{AreOwnEntries}
use Rattle.exh_legal.proofs.table_fit.has_own_entries.Goals as goal

pub returns-then-not-is_own_entry : goal.returns-then-not-is_own_entry
returns-then-not-is_own_entry g c =
    let pages = g.P.PageList.pages c.args.pages.now in (
      λ is. absurd (false≢true is),
      λ own.
          let all = c.loop-prefix.invariant.1 (each_entry (IsOwnEntry c.args.ward pages) c.args.table.now own) in
          let first = (subst (AreOwnEntries c.args.ward pages) c.in-Some.ensures.steps all).0 in
          absurd (false≢true (sym c.if-not-is_own_entry.true ∙ c.is_own_entry.ensures.1 first)),
    )

pub loop-prefix-preserved : goal.loop-prefix-preserved
loop-prefix-preserved g c =
    let pages = g.P.PageList.pages c.args.pages.now in (
      λ rest. c.loop-prefix.invariant.0 (subst (AreOwnEntries c.args.ward pages) (sym c.in-Some.ensures.steps) (c.is_own_entry.ensures.0 c.if-not-is_own_entry.false, rest)),
      λ all. (subst (AreOwnEntries c.args.ward pages) c.in-Some.ensures.steps (c.loop-prefix.invariant.1 all)).1,
    )

pub returns : goal.returns
returns g c =
    let pages = g.P.PageList.pages c.args.pages.now in
    (λ _. all_entries (IsOwnEntry c.args.ward pages) c.args.table.now (c.loop-prefix.invariant.0 (subst (AreOwnEntries c.args.ward pages) (sym (c.in-None.ensures.steps).0) tt)), λ _. refl)
