use Rattle.std.proofs.Common.{◌≡◌, ℕ, ◌+◌, ◌-◌, List, ◌++◌, length, take, drop, remove, sym, ap, ◌∙◌, subst, arith}
use Rattle.std.proofs.Math.Numerals.{suc-eq-add-one}
use Rattle.std.proofs.lemmas.List.{length-drop}
use Rattle.exh_page.specs.declared.record.Record.{Record}
use Rattle.exh_page.specs.Page.{records_of}
use Rattle.exh_frames.specs.InPlace.{AreKeyed}
use Rattle.exh_frames.specs.PageImages.{page_in}
use Rattle.exh_frames.proofs.Changed.{has_content, laid_with}
use Rattle.exh_frames.proofs.Contents.{has_records, records_with}
use Rattle.exh_frames.proofs.Keyed.{keyed_without}
use Rattle.exh_frames.proofs.Kept.{written_fits}
use Rattle.exh_frames.proofs.image.Image.remove.Goals as goal

pub remove_pseudokey-requires-clause-within : goal.remove_pseudokey-requires-clause-within
remove_pseudokey-requires-clause-within c =
    let pseudo = c.requires.0 in
    let can = c.requires.1 in
    let page = page_in pseudo c.args.self.now in
    let said = has_records c.args.self.now.block page (has_content pseudo page c.args.self.now.block can.live can.laid) in
    omega (arith, can.within, c.from-count.ensures, said.1.count)

pub remove_pseudokey-requires-clause-few : goal.remove_pseudokey-requires-clause-few
remove_pseudokey-requires-clause-few c =
    let pseudo = c.requires.0 in
    let can = c.requires.1 in
    let page = page_in pseudo c.args.self.now in
    let has = has_content pseudo page c.args.self.now.block can.live can.laid in
    let said = has_records c.args.self.now.block page has in
    omega (arith, has.few, c.from-count.ensures, said.1.count)

pub remove_record-requires : goal.remove_record-requires
remove_record-requires c =
    let pseudo = c.requires.0 in
    let can = c.requires.1 in
    let page = page_in pseudo c.args.self.now in
    (page, record { content = has_content pseudo page c.args.self.now.block can.live can.laid; within = can.within })

pub returns : goal.returns
returns c pseudo can =
    let page = page_in pseudo c.args.self.now in
    let records = records_of page in
    let i = c.args.index in
    let left = remove records i in
    let content = has_content pseudo page c.args.self.now.block can.live can.laid in
    let said = has_records c.args.self.now.block page content in
    let has = c.remove_record.ensures page (record { content = content; within = can.within }) in
    let laid = laid_with pseudo left page c.args.self.now.block c.remove_record.new.block can.live can.laid has can.formed in
    let left_is : left ≡ take i records ++ drop (i + 1) records = ap (λ (n : ℕ). take i records ++ drop n records) (suc-eq-add-one i) in
    let pseudokeys : List ℕ = c.args.self.now.pseudokeys in
    let rest : List ℕ = drop (c.from-count.result - 1) pseudokeys in
    let behind : length (drop (i + 1) records) ≡ c.from-count.result - (i + 1) = omega (arith, length-drop (i + 1) records, c.from-count.ensures, said.1.count) in
    let keyed = keyed_without records pseudokeys rest i (c.from-count.result - (i + 1)) (omega (arith, can.within)) behind can.keyed in
    let new = subst (AreKeyed (take i records ++ drop (i + 1) records)) (sym c.remove_pseudokey.ensures) keyed in
    record {
      laid = laid;
      read = c.blocks_are_read.ensures _ written_fits pseudo _ c.remove_record.new.block laid;
      keyed = subst (λ (l : List Record). AreKeyed l c.remove_pseudokey.new.pseudokeys) (sym (records_with left page can.live ∙ left_is)) new;
    }
