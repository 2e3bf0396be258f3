-- What the first bytes of a page file of version 3 say.
use Rattle.std.specs.Prelude.{◌≡◌, ℕ, List}
use Rattle.byteorder.specs.Endian.{big_from}
use Rattle.exh_direct.specs.HeaderTests.{HasMagic, IsOfVersion}
use Rattle.exh_file.specs.StampedHeader.{placed_format}
use Rattle.exh_system.specs.declared.front.Front.{Front}

-- they are those of such a file, with these stamps
pub record IsFront (bytes : List ℕ) (front : Front) : Type 0 where
  pub magic : HasMagic bytes
  pub version : IsOfVersion placed_format bytes
  pub stamp : big_from 84 8 bytes ≡ front.stamp
  pub before : big_from 92 8 bytes ≡ front.before
