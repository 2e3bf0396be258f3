-- Whether a header is of a state of the file beside whose log it was read.
use Rattle.std.proofs.Common.{◌≡◌, ◌⊎◌, ◌↔◌, ◌∙◌, ℕ, Bool, List, Option, IsTrue, None, Some, inl, inr, sym, ap, subst}
use Rattle.sqlite_wal.specs.Recovery.{Image}
use Rattle.exh_format.specs.FileTests.{IsWhole, block_at}
use Rattle.exh_cells.proofs.StampedPassed.{one_header}
use Rattle.exh_cells.specs.declared.stamped_header.StampedHeader.{StampedHeader}
use Rattle.exh_cells.specs.StampedHeader.{IsStampedImage}
use Rattle.exh_commit.specs.LogLine.{IsBlockOf}
use Rattle.exh_paged.specs.OwnLog.{IsLaterIn, IsLaterThan, IsOthers, IsOwnPair, MayBeCopied, MustHave}

pub later_in : (image : Image) (header : StampedHeader) (own : Option ℕ) → MustHave image own → IsLaterThan own header → IsLaterIn image header
later_in image header None must later stamp has = inr (inr (must stamp has))
later_in image header (Some own) must (inl same) stamp has = inl (same ∙ sym (must.0.only stamp has))
later_in image header (Some own) must (inr before) stamp has = inr (inl (before ∙ sym (must.0.only stamp has)))

pub never_in : (image : Image) (header : StampedHeader) (own : Option ℕ) → MustHave image own → (IsLaterThan own header → ⊥) → IsLaterIn image header → ⊥
never_in image header None must never later = never tt
never_in image header (Some own) must never later =
    elim (later own must.0.has) [
      | inl same ↦ never (inl same)
      | inr (inl before) ↦ never (inr before)
      | inr (inr line) ↦ must.1 line
    ]

-- of a file and a log that belong together nothing tells that the log is another file's
pub pair_never : (image : Image) (pair : IsOwnPair image) → IsOthers image pair.bytes → ⊥
pair_never image pair others =
    let same : others.header ≡ pair.header = one_header others.header pair.header (block_at 0 pair.bytes) others.there.is pair.there.is in
    others.never (λ stamp has. elim (pair.own stamp has) [
      | inl is ↦ inl (ap (λ (header : StampedHeader). header.stamp) same ∙ is)
      | inr is ↦ inr (inl (ap (λ (header : StampedHeader). header.before) same ∙ is))
    ])

-- ---- what a reader copies

abbrev pub IsHeaderOrCopy : List ℕ → List ℕ → Type 0
IsHeaderOrCopy log block = ((header : StampedHeader) × IsStampedImage header block) ⊎ IsBlockOf log block

pub may_copy : (may : Bool) (log db again block : List ℕ) → again ≡ log → block ≡ block_at 0 db → IsWhole 0 db → (IsTrue may ↔ IsHeaderOrCopy again block) → IsTrue may ↔ MayBeCopied (record { log = log; db = db })
may_copy may log db again block same first whole holds =
    let both = subst (λ (log : List ℕ). IsTrue may ↔ IsHeaderOrCopy log (block_at 0 db)) same (subst (λ (block : List ℕ). IsTrue may ↔ IsHeaderOrCopy again block) first holds) in
    (λ yes. (whole, both.0 yes), λ it. both.1 it.1)
