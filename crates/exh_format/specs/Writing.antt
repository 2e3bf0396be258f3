-- A page file on its way to a writer: an output that takes its blocks, and entries of the table, which wait until they fill a block.
use Rattle.std.specs.Prelude.{◌≡◌, ℕ, zero, suc, ◌*◌, List, [], ◌∷◌, ◌++◌, Option, length, take, drop}
use Rattle.std.specs.List.{flat_map}
use Rattle.exh_prefix.specs.Version.{Version}
use Rattle.exh_stream.specs.Output.{Takes, TakesBeginning, pending}
use Rattle.exh_stream.specs.declared.output.Output.{Output}
use Rattle.exh_codec.specs.declared.block.TheConstants.{CONTENT_LEN}
use Rattle.exh_codec.specs.Block.{sealed}
use Rattle.exh_codec.specs.PageImage.{padded}
use Rattle.exh_format.specs.declared.file_entry.FileEntry.{FileEntry}
use Rattle.exh_format.specs.declared.table_writer.TableWriter.{TableWriter}
use Rattle.exh_format.specs.TableImage.{image_of}
use Rattle.exh_format.specs.WaitingImages.{bytes_of}

-- ---- what a file on its way shows

-- the output, and the images of the entries that wait
pub record OnItsWay (W : Type 0) : Type 0 where
  pub output : Output W
  pub images : List ℕ

abbrev pub waiting_images : TableWriter → List ℕ
waiting_images table = bytes_of table.images

abbrev pub on_its_way : {W : Type 0} → Output W → TableWriter → OnItsWay W
on_its_way output table = record { output = output; images = waiting_images table }

-- the block of the last entries, none without an entry
abbrev pub last_block : List ℕ → List ℕ
last_block [] = []
last_block (byte ∷ images) = sealed (padded CONTENT_LEN (byte ∷ images))

-- the bytes that the writer is still to get
abbrev pub unsent : {W : Type 0} → OnItsWay W → List ℕ
unsent file = pending file.output ++ last_block file.images

-- ---- what it takes

-- so many blocks, each full of images
abbrev pub full_blocks : ℕ → List ℕ → List ℕ
full_blocks zero images = []
full_blocks (suc blocks) images = sealed (take CONTENT_LEN images) ++ full_blocks blocks (drop CONTENT_LEN images)

module _ {W : Type 0} (contents : W → Option (List ℕ)) where
  -- the file takes entries: of those that waited and these, some fill so many blocks, which it takes, and the others wait
  pub record TakesEntries (version : Version) (old new : OnItsWay W) (entries : List FileEntry) : Type 0 where
    pub blocks : ℕ
    pub images : List ℕ
    pub split : old.images ++ flat_map (image_of version) entries ≡ images ++ new.images
    pub full : length images ≡ CONTENT_LEN * blocks
    pub passed : Takes contents old.output new.output (full_blocks blocks images)

  -- the writer gets a beginning of what is on its way and of the blocks that some fill
  pub record TakesEntriesBeginning (version : Version) (old new : OnItsWay W) (entries : List FileEntry) : Type 0 where
    pub blocks : ℕ
    pub images : List ℕ
    pub rest : List ℕ
    pub split : old.images ++ flat_map (image_of version) entries ≡ images ++ rest
    pub full : length images ≡ CONTENT_LEN * blocks
    pub passed : TakesBeginning contents old.output new.output (full_blocks blocks images)
