use Rattle.std.proofs.Common.{refl}
use Rattle.std.specs.List.{flat_map}
use Rattle.exh_codec.specs.Block.{sealed}
use Rattle.exh_codec.specs.PageImage.{padded}
use Rattle.exh_format.specs.HeaderImage.{header_bytes}
use Rattle.exh_format.specs.TableImage.{image_of}
use Rattle.exh_format.proofs.block_laws.one_block_image.Goals as goal

pub returns-clause-headers : goal.returns-clause-headers
returns-clause-headers c version header valid =
    (sealed (padded 4064 (header_bytes version header)), record { image = record { valid = valid; whole = refl }; only = λ other image. image.whole })

pub returns-clause-tables : goal.returns-clause-tables
returns-clause-tables c version entries few valid =
    (sealed (padded 4064 (flat_map (image_of version) entries)), record { image = record { few = few; valid = valid; whole = refl }; only = λ other image. image.whole })
