-- What a draft writes, and the edits that make a file have it.
use Rattle.std.proofs.Common.{◌≡◌, ℕ, ◌*◌, Bool, List, [], ◌∷◌, ◌++◌, length, Option, None, Some, IfSome, IsTrue, ◌∙◌, ap, ap₂, subst, arith, append-nil}
use Rattle.std.specs.Io.KnownBytes.{Appends}
use Rattle.std.proofs.lemmas.Bool.{and_from, cond-true}
use Rattle.sqlite_disk.specs.declared.Disk.{Ghosts}
use Rattle.exh_commit.specs.declared.BlockEdit.{BlockEdit}
use Rattle.exh_commit.specs.BlockEdits.{with_edits}
use Rattle.exh_commit.specs.Comparison.{AreDifferences, Comparison, EndsEarly, IsWholeBlocks, comparison_of, contents_of, pair_bytes}
use Rattle.exh_commit.specs.declared.paged_file.PagedFile.{PagedFile}
use Rattle.exh_commit.specs.PagedFile.{IsReady, bytes_in, known_in, state_in}
use Rattle.exh_file.specs.Draft.{DraftState, IsDraftSaving, bytes_in as draft_bytes}
use Rattle.exh_commit.specs.declared.DifferingFault.{DifferingFault}
use Rattle.exh_commit.specs.declared.DifferingFault.TheVariants.{Shorter}
use Rattle.exh_paged.specs.declared.save_files_fault.SaveFilesFault.TheVariants.{Content}
use Rattle.exh_paged.specs.SaveFilesFault.{IsOfContent}
use Rattle.exh_paged.specs.Saving.{AreEditsToDraft, IsSavedOver}

appended : (old wanted : List ℕ) (now : Option (List ℕ)) → Appends (contents_of (comparison_of (Some old) [] 0 [])) now wanted → now ≡ Some (pair_bytes old wanted)
appended old wanted None appends = absurd appends
appended old wanted (Some bytes) appends = ap Some (appends ∙ ap (λ (all : List ℕ). length old ∷ (all ++ wanted)) (append-nil old))

-- the differences of what was written make the file have it
pub made_to : (known : Option (List ℕ)) (draft : DraftState) (now : Option Comparison) (edits : List BlockEdit) → Appends (contents_of (comparison_of known [] 0 [])) (contents_of now) (draft_bytes draft)
    → ((old new : List ℕ) → contents_of now ≡ Some (pair_bytes old new) → IsWholeBlocks old → AreDifferences old edits new) → AreEditsToDraft known draft edits
made_to None draft now edits appends made = tt
made_to (Some old) draft now edits appends made = λ whole. (made old (draft_bytes draft) (appended old (draft_bytes draft) (contents_of now) appends) whole).to.whole

shorter_of : (fault other : DifferingFault) → Content fault ≡ Content other → fault ≡ other
shorter_of fault other same = cc

-- a draft that was written whole ends early where its edits are refused as that
pub content_of : (known : Option (List ℕ)) (draft : DraftState) (now : Option Comparison) (fault : DifferingFault) → Appends (contents_of (comparison_of known [] 0 [])) (contents_of now) (draft_bytes draft)
    → ((old new : List ℕ) → contents_of now ≡ Some (pair_bytes old new) → fault ≡ Shorter → EndsEarly old new) → IfSome known (λ old. IsOfContent draft old (Content fault))
content_of None draft now fault appends early = tt
content_of (Some old) draft now fault appends early = λ same. early old (draft_bytes draft) (appended old (draft_bytes draft) (contents_of now) appends) (shorter_of fault Shorter same)

whole_blocks : (bytes : List ℕ) (count : ℕ) → length bytes ≡ 4096 * count → IsWholeBlocks bytes
whole_blocks bytes count len = omega (arith, len)

module _ {D : Type 0} {g : Ghosts D} where
  pub known_gives : (truthful : Bool) (it : PagedFile D g) (P : List ℕ → Type 0) → IsTrue truthful → IsReady it → IfSome (known_in truthful it) P → P (bytes_in it)
  known_gives truthful it P truth ready holds = subst (λ (known : Option (List ℕ)). IfSome known P) (cond-true _ _ _ (and_from truthful (state_in it).is_ready truth ready)) holds

  -- the bytes after the edits that were passed on are saved over those from before
  pub saved_over : (truthful : Bool) (draft : DraftState) (it : PagedFile D g) (old mid new : List ℕ) (count : ℕ) (edits passed : List BlockEdit) → IsReady it → length old ≡ 4096 * count
      → AreEditsToDraft (known_in truthful it) draft edits → IsDraftSaving draft (draft_bytes draft) → passed ≡ edits → bytes_in it ≡ old → mid ≡ bytes_in it → new ≡ with_edits passed mid → IsSavedOver truthful draft old new
  saved_over truthful draft it old mid new count edits passed ready len made legal same_edits was same_bytes is =
      let after : new ≡ with_edits edits old = is ∙ ap₂ (λ (all : List BlockEdit) (bytes : List ℕ). with_edits all bytes) same_edits (same_bytes ∙ was) in
      record {
        edits = edits;
        is = after;
        drafted = λ truth.
            let wanted : IsWholeBlocks old → with_edits edits old ≡ draft_bytes draft = subst (λ (bytes : List ℕ). IsWholeBlocks bytes → with_edits edits bytes ≡ draft_bytes draft) was
            (known_gives truthful it (λ bytes. IsWholeBlocks bytes → with_edits edits bytes ≡ draft_bytes draft) truth ready made) in
            after ∙ wanted (whole_blocks old count len);
        legal = legal;
      }
