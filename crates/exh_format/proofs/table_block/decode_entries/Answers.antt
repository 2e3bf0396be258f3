use Rattle.std.proofs.Common.{◌≡◌, ◌≢◌, ◌++◌, ℕ, List, length, sym, ◌∙◌, subst}
use Rattle.std.specs.Option.{option_to_list}
use Rattle.std.proofs.lemmas.Bool.{false≢true}
use Rattle.exh_prefix.specs.declared.version.Version.{Version as KnownVersion}
use Rattle.exh_prefix.specs.Layout.{layout}
use Rattle.exh_prefix.specs.LayoutLemmas.{layout_fits}
use Rattle.exh_codec.specs.declared.image_fault.ImageFault.{ImageFault}
use Rattle.exh_codec.specs.declared.image_fault.ImageFault.TheVariants as images
use Rattle.exh_format.specs.declared.file_entry.FileEntry.{FileEntry}
use Rattle.exh_format.specs.TableImage.{AreRising, IsTableImage, prefixes_of}
use Rattle.exh_format.specs.TableTests.{IsFirstFault}
use Rattle.exh_format.proofs.TablePassed.{Says, says, image_from, none_fails, one_list, first_digest, first_entry, first_behind, first_order, memory_else, err_given, err_match}
use Rattle.exh_format.proofs.table_block.decode_entries.Goals as goal

-- what an image of so many entries says
says_of : (version : KnownVersion) (count : ℕ) (entries : List FileEntry) (block : List ℕ) → IsTableImage (layout version) entries block → length entries ≡ count → Says (layout version) (layout_fits version) count entries block
says_of version count entries block image len =
    subst (λ (n : ℕ). Says (layout version) (layout_fits version) n entries block) len (says (layout version) (layout_fits version) entries block image)

pub returns-then-not-is_sealed-clause-every : goal.returns-then-not-is_sealed-clause-every
returns-then-not-is_sealed-clause-every c entries image len rising =
    absurd (false≢true (sym c.if-not-is_sealed.true ∙ c.is_sealed.ensures.1 (says_of c.args.version c.args.count entries c.args.block.now image len).is_sealed))

pub returns-then-not-is_sealed-clause-fault : goal.returns-then-not-is_sealed-clause-fault
returns-then-not-is_sealed-clause-fault c _ =
    first_digest (layout c.args.version) (layout_fits c.args.version) c.args.count c.args.before c.args.block.now (λ is_sealed. absurd (false≢true (sym c.if-not-is_sealed.true ∙ c.is_sealed.ensures.1 is_sealed)))

pub returns-in_err-entries-clause-every : goal.returns-in_err-entries-clause-every
returns-in_err-entries-clause-every c entries image len rising =
    let fault = c.in_err-entries.field-0.0 in
    err_match c.from_residual.result fault _ (λ (fault : ImageFault). fault ≡ images.Memory) c.from_residual.ensures.1
    (memory_else fault (λ other. none_fails (layout c.args.version) (layout_fits c.args.version) c.args.count c.args.block.now entries _ fault (says_of c.args.version c.args.count entries c.args.block.now image len).are (c.in_err-entries.ensures.fault other)))

pub returns-in_err-entries-clause-fault : goal.returns-in_err-entries-clause-fault
returns-in_err-entries-clause-fault c =
    let fault = c.in_err-entries.field-0.0 in
    err_given c.from_residual.result fault (λ (fault : ImageFault). fault ≢ images.Memory → IsFirstFault (layout c.args.version) c.args.count c.args.before c.args.block.now fault) c.from_residual.ensures.1
    (λ other. first_entry (layout c.args.version) (layout_fits c.args.version) c.args.count c.args.before c.args.block.now fault (c.is_sealed.ensures.0 c.if-not-is_sealed.false) (c.in_err-entries.ensures.fault other))

pub returns-then-not-are_zero-clause-every : goal.returns-then-not-are_zero-clause-every
returns-then-not-are_zero-clause-every c entries image len rising =
    absurd (false≢true (sym c.if-not-are_zero.true ∙ c.are_zero.ensures.1 (says_of c.args.version c.args.count entries c.args.block.now image len).behind))

pub returns-then-not-are_zero-clause-fault : goal.returns-then-not-are_zero-clause-fault
returns-then-not-are_zero-clause-fault c _ =
    first_behind (layout c.args.version) (layout_fits c.args.version) c.args.count c.args.before c.args.block.now c.in_ok-entries.entries.items _ (c.is_sealed.ensures.0 c.if-not-is_sealed.false) c.in_ok-entries.ensures.entries
    (λ zero. absurd (false≢true (sym c.if-not-are_zero.true ∙ c.are_zero.ensures.1 zero)))

pub returns-then-not-are_rising-clause-every : goal.returns-then-not-are_rising-clause-every
returns-then-not-are_rising-clause-every c entries image len rising =
    let same : entries ≡ c.deref.result.now =
    one_list (layout c.args.version) (layout_fits c.args.version) c.args.count c.args.block.now entries c.in_ok-entries.entries.items _ _ (says_of c.args.version c.args.count entries c.args.block.now image len).are c.in_ok-entries.ensures.entries
    ∙ sym c.deref.ensures.value in
    absurd (false≢true (sym c.if-not-are_rising.true ∙ c.are_rising.ensures.1 (subst (λ (entries : List FileEntry). AreRising (option_to_list c.args.before ++ prefixes_of entries)) same rising)))

pub returns-then-not-are_rising-clause-fault : goal.returns-then-not-are_rising-clause-fault
returns-then-not-are_rising-clause-fault c _ =
    first_order (layout c.args.version) (layout_fits c.args.version) c.args.count c.args.before c.args.block.now c.in_ok-entries.entries.items _ (c.is_sealed.ensures.0 c.if-not-is_sealed.false) c.in_ok-entries.ensures.entries
    (c.are_zero.ensures.0 c.if-not-are_zero.false)
    (λ rising.
    absurd (false≢true (sym c.if-not-are_rising.true ∙ c.are_rising.ensures.1 (subst (λ (entries : List FileEntry). AreRising (option_to_list c.args.before ++ prefixes_of entries)) (sym c.deref.ensures.value) rising))))

pub returns-clause-image : goal.returns-clause-image
returns-clause-image c =
    image_from (layout c.args.version) (layout_fits c.args.version) c.args.count c.in_ok-entries.entries.items c.args.block.now c.told-block c.requires
    (record { is_sealed = c.is_sealed.ensures.0 c.if-not-is_sealed.false; are = c.in_ok-entries.ensures.entries; behind = c.are_zero.ensures.0 c.if-not-are_zero.false })

pub returns-clause-every : goal.returns-clause-every
returns-clause-every c entries image len rising =
    one_list (layout c.args.version) (layout_fits c.args.version) c.args.count c.args.block.now c.in_ok-entries.entries.items entries _ _ c.in_ok-entries.ensures.entries (says_of c.args.version c.args.count entries c.args.block.now image len).are

pub returns-clause-rising : goal.returns-clause-rising
returns-clause-rising c = subst (λ (entries : List FileEntry). AreRising (option_to_list c.args.before ++ prefixes_of entries)) c.deref.ensures.value (c.are_rising.ensures.0 c.if-not-are_rising.false)
