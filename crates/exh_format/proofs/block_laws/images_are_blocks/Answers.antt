use Rattle.std.proofs.Common.{arith}
use Rattle.std.specs.List.{flat_map}
use Rattle.exh_codec.specs.BlockLemmas.{length-padded, length-sealed}
use Rattle.exh_codec.specs.PageImage.{padded}
use Rattle.exh_format.specs.HeaderImage.{header_bytes}
use Rattle.exh_format.specs.TableImage.{image_of}
use Rattle.exh_format.proofs.HeaderBytes.{length-header_bytes}
use Rattle.exh_format.proofs.TableBytes.{length-images}
use Rattle.exh_format.proofs.block_laws.images_are_blocks.Goals as goal

pub returns-clause-headers : goal.returns-clause-headers
returns-clause-headers c version header block image =
    let used = header_bytes version header in
    length-sealed block (padded 4064 used) (length-padded 4064 used (omega (arith, length-header_bytes version header image.valid.counts))) image.whole

pub returns-clause-tables : goal.returns-clause-tables
returns-clause-tables c version fits entries block image =
    let used = flat_map (image_of version) entries in
    length-sealed block (padded 4064 used) (length-padded 4064 used (omega (arith, length-images version fits entries, image.few))) image.whole
