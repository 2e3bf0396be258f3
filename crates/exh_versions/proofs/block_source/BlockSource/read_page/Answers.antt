use Rattle.std.proofs.Common.{ℕ, refl, sym, ap, ◌∙◌, subst}
use Rattle.exh_keyer.specs.Pseudokey.{any_pseudokey}
use Rattle.exh_prefix.specs.Version.{second_version}
use Rattle.exh_format.specs.FileTests.{NextFails, PageFails}
use Rattle.exh_format.specs.ReadFileFault.{fault_at}
use Rattle.exh_format.specs.Reading.{IsOf}
use Rattle.exh_versions.proofs.Blocks.{block_fails, fault_of}
use Rattle.exh_versions.proofs.block_source.BlockSource.read_page.Goals as goal

pub returns-in-Err-clause-err : goal.returns-in-Err-clause-err
returns-in-Err-clause-err g c =
    let Fails = PageFails second_version (any_pseudokey c.args.keyer) c.args.self.now.place in
    let fault = c.in-Err.fault in
    subst (IsOf (NextFails Fails) _) (sym (c.at_place.ensures ∙ ap (λ (place : ℕ). fault_at place fault) c.fill.ensures.place))
    (fault_of (NextFails Fails) _ _ fault (λ other. block_fails Fails _ _ c.fill.new.block _ c.in_ok-fill.ensures.ok c.in_ok-fill.ensures.block.0 (fault, c.in-Err.ensures.fault other, refl)))
