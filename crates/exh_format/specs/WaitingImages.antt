-- Images of entries that wait for their block.
use Rattle.std.specs.Prelude.{ℕ, List}
use Rattle.exh_format.specs.declared.waiting_images.WaitingImages.{WaitingImages}

abbrev pub bytes_of : WaitingImages → List ℕ
bytes_of images = images.bytes.items
