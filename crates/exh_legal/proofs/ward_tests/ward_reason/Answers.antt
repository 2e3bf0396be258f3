use Rattle.std.proofs.Common.{sym, ◌∙◌}
use Rattle.std.proofs.lemmas.Bool.{false≢true}
use Rattle.exh_legal.specs.Reasons.{WardPasses}
use Rattle.exh_legal.proofs.Firsts.{before_cap, before_leaves, before_links, before_lows, before_table, before_targets, each_reason}
use Rattle.exh_legal.proofs.ward_tests.ward_reason.Goals as goal

pub returns-then-not-keeps_cap : goal.returns-then-not-keeps_cap
returns-then-not-keeps_cap g c =
    let pages = g.P.PageList.pages c.args.pages.now in (
      λ keeps. absurd (false≢true (sym c.if-not-keeps_cap.true ∙ c.keeps_cap.ensures.1 keeps)),
      before_cap (WardPasses c.args.cap c.args.ward c.args.table.now pages),
    )

pub returns-in_default : goal.returns-in_default
returns-in_default g c =
    let pages = g.P.PageList.pages c.args.pages.now in (
      rw c.in_default.is at c.in_ok-index.ensures,
      before_lows (WardPasses c.args.cap c.args.ward c.args.table.now pages) (c.keeps_cap.ensures.0 c.if-not-keeps_cap.false),
    )

pub returns-then-not-has_leaves : goal.returns-then-not-has_leaves
returns-then-not-has_leaves g c =
    let pages = g.P.PageList.pages c.args.pages.now in
    let lows = (rw c.in-Some.is at c.in_ok-index.ensures).0 in (
      λ has. absurd (false≢true (sym c.if-not-has_leaves.true ∙ c.has_leaves.ensures.1 has)),
      before_leaves (WardPasses c.args.cap c.args.ward c.args.table.now pages) (c.keeps_cap.ensures.0 c.if-not-keeps_cap.false) lows,
    )

pub returns-then-not-has_links : goal.returns-then-not-has_links
returns-then-not-has_links g c =
    let pages = g.P.PageList.pages c.args.pages.now in
    let lows = (rw c.in-Some.is at c.in_ok-index.ensures).0 in (
      λ has. absurd (false≢true (sym c.if-not-has_links.true ∙ c.has_links.ensures.1 has)),
      before_links (WardPasses c.args.cap c.args.ward c.args.table.now pages) (c.keeps_cap.ensures.0 c.if-not-keeps_cap.false) lows (c.has_leaves.ensures.0 c.if-not-has_leaves.false),
    )

pub returns-then-not-has_targets : goal.returns-then-not-has_targets
returns-then-not-has_targets g c =
    let pages = g.P.PageList.pages c.args.pages.now in
    let lows = (rw c.in-Some.is at c.in_ok-index.ensures).0 in (
      λ has. absurd (false≢true (sym c.if-not-has_targets.true ∙ c.has_targets.ensures.1 has)),
      before_targets (WardPasses c.args.cap c.args.ward c.args.table.now pages) (c.keeps_cap.ensures.0 c.if-not-keeps_cap.false) lows (c.has_leaves.ensures.0 c.if-not-has_leaves.false) (c.has_links.ensures.0 c.if-not-has_links.false),
    )

pub has_leaves-requires-clause-lows : goal.has_leaves-requires-clause-lows
has_leaves-requires-clause-lows g c = (rw c.in-Some.is at c.in_ok-index.ensures).0

pub has_leaves-requires-clause-index : goal.has_leaves-requires-clause-index
has_leaves-requires-clause-index g c = (rw c.in-Some.is at c.in_ok-index.ensures).1

pub has_links-requires-clause-lows : goal.has_links-requires-clause-lows
has_links-requires-clause-lows g c = (rw c.in-Some.is at c.in_ok-index.ensures).0

pub has_links-requires-clause-leaves : goal.has_links-requires-clause-leaves
has_links-requires-clause-leaves g c = c.has_leaves.ensures.0 c.if-not-has_leaves.false

pub has_links-requires-clause-index : goal.has_links-requires-clause-index
has_links-requires-clause-index g c = (rw c.in-Some.is at c.in_ok-index.ensures).1

pub fits_pages-requires-clause-lows : goal.fits_pages-requires-clause-lows
fits_pages-requires-clause-lows g c = (rw c.in-Some.is at c.in_ok-index.ensures).0

pub fits_pages-requires-clause-leaves : goal.fits_pages-requires-clause-leaves
fits_pages-requires-clause-leaves g c = c.has_leaves.ensures.0 c.if-not-has_leaves.false

pub fits_pages-requires-clause-index : goal.fits_pages-requires-clause-index
fits_pages-requires-clause-index g c = (rw c.in-Some.is at c.in_ok-index.ensures).1

pub has_targets-requires : goal.has_targets-requires
has_targets-requires g c = (rw c.in-Some.is at c.in_ok-index.ensures).1

pub returns-then-not-fits_pages : goal.returns-then-not-fits_pages
returns-then-not-fits_pages g c =
    let pages = g.P.PageList.pages c.args.pages.now in
    let lows = (rw c.in-Some.is at c.in_ok-index.ensures).0 in (
      λ fits. absurd (false≢true (sym c.if-not-fits_pages.true ∙ c.fits_pages.ensures.1 fits)),
      before_table (WardPasses c.args.cap c.args.ward c.args.table.now pages) (c.keeps_cap.ensures.0 c.if-not-keeps_cap.false) lows (c.has_leaves.ensures.0 c.if-not-has_leaves.false) (c.has_links.ensures.0 c.if-not-has_links.false) (c.has_targets.ensures.0 c.if-not-has_targets.false),
    )

pub returns : goal.returns
returns g c =
    let pages = g.P.PageList.pages c.args.pages.now in
    let lows = (rw c.in-Some.is at c.in_ok-index.ensures).0 in
    each_reason (WardPasses c.args.cap c.args.ward c.args.table.now pages) (c.keeps_cap.ensures.0 c.if-not-keeps_cap.false) lows (c.has_leaves.ensures.0 c.if-not-has_leaves.false) (c.has_links.ensures.0 c.if-not-has_links.false) (c.has_targets.ensures.0 c.if-not-has_targets.false) (c.fits_pages.ensures.0 c.if-not-fits_pages.false)

pub has_leaves-requires-clause-bounded : goal.has_leaves-requires-clause-bounded
has_leaves-requires-clause-bounded g c = (rw c.in-Some.is at c.in_ok-index.ensures).2

pub has_links-requires-clause-bounded : goal.has_links-requires-clause-bounded
has_links-requires-clause-bounded g c = (rw c.in-Some.is at c.in_ok-index.ensures).2

pub fits_pages-requires-clause-bounded : goal.fits_pages-requires-clause-bounded
fits_pages-requires-clause-bounded g c = (rw c.in-Some.is at c.in_ok-index.ensures).2
