use Rattle.std.proofs.Common.{length, slice_get, inl, inr, refl, sym, ap, ◌∙◌, arith}
use Rattle.std.proofs.lemmas.Option.{slice_get_read}
use Rattle.exh_prefix.specs.PrefixLemmas.{prefix_cmp-exact}
use Rattle.exh_direct.proofs.side.side_of.Goals as goal

pub returns-in-Equal : goal.returns-in-Equal
returns-in-Equal c =
    let item = c.index-entries-at.result in (
      c.loop-at.at,
      slice_get_read c.args.entries.now (length c.args.entries.now) c.loop-at.at item refl (omega (arith, c.loop-at-test.true)) c.index-entries-at.is,
      prefix_cmp-exact item.prefix c.args.prefix (sym c.cmp-in-loop-at.ensures ∙ c.in-Equal.is),
    )

pub returns-in-Greater-2 : goal.returns-in-Greater-2
returns-in-Greater-2 c =
    let item = c.index-entries-at.result in
    elim c.loop-at.invariant [
      | inl none ↦ absurd (c.if-at-eq0.false none)
      | inr (last, before, is, there, less) ↦ (
        last,
        before,
        item,
        there,
        ap (slice_get c.args.entries.now) (sym is)
            ∙ slice_get_read c.args.entries.now (length c.args.entries.now) c.loop-at.at item refl (omega (arith, c.loop-at-test.true)) c.index-entries-at.is,
        less,
        sym c.cmp-in-loop-at.ensures ∙ c.in-Greater.is,
      )
    ]

pub loop-at-preserved : goal.loop-at-preserved
loop-at-preserved c =
    let item = c.index-entries-at.result in
    inr (
      c.loop-at.at,
      item,
      refl,
      slice_get_read c.args.entries.now (length c.args.entries.now) c.loop-at.at item refl (omega (arith, c.loop-at-test.true)) c.index-entries-at.is,
      sym c.cmp-in-loop-at.ensures ∙ c.in-Less.is,
    )
