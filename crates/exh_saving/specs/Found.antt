-- What two tells of a file have in common, and what a folder's permissions keep from whom.
use Rattle.std.specs.Prelude.{◌≡◌, ◌≢◌, ◌+◌, ℕ, IsBitSet}
use Rattle.exh_saving.specs.declared.found.Found.{Found}
use Rattle.exh_saving.specs.declared.found.Kind.TheVariants.{Regular}
use Rattle.exh_saving.specs.declared.found.Runner.{Runner}

-- they are of one file
pub record IsSame (a b : Found) : Type 0 where
  pub kind : a.kind ≡ b.kind
  pub device : a.device ≡ b.device
  pub inode : a.inode ≡ b.inode

-- and nobody wrote to it in between
pub record IsUnchanged (a b : Found) : Type 0 where
  pub same : IsSame a b
  pub size : a.size ≡ b.size
  pub modified : a.modified ≡ b.modified

-- they are of one file, a regular one, and it has one name
pub record IsOnly (a b : Found) : Type 0 where
  pub same : IsSame a b
  pub regular : a.kind ≡ Regular
  pub links : a.links ≡ 1

-- the bits by which a mode lets its owner, its group, and others search a folder; the one above each lets them write there
abbrev pub of_owner : ℕ
of_owner = 6

abbrev pub of_group : ℕ
of_group = 3

abbrev pub of_others : ℕ
of_others = 0

-- a mode lets no file be made by those whose bits begin here: that takes the right to write and to search
abbrev pub LetsNone : ℕ → ℕ → Type 0
LetsNone mode first = IsBitSet mode (first + 1) → IsBitSet mode first → ⊥

-- A folder's permissions keep a runner from making a file there. Nothing keeps the user 0 from it; the owner's bits count
-- for the owner alone, the group's for others, who may be in it as one of their further groups, and those of others for
-- whose first group isn't the folder's.
pub record IsClosedTo (folder : Found) (runner : Runner) : Type 0 where
  pub bound : runner.user ≢ 0
  pub owner : runner.user ≡ folder.owner → LetsNone folder.mode of_owner
  pub group : runner.user ≢ folder.owner → LetsNone folder.mode of_group
  pub others : runner.user ≢ folder.owner → runner.group ≢ folder.group → LetsNone folder.mode of_others
