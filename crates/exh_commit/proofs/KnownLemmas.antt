-- Bytes that are known of a file.
use Rattle.std.proofs.Common.{◌≡◌, ℕ, ◌/◌, ◌&&◌, Bool, List, length, Option, IfSome, IsTrue, sym, subst, inl, inr, arith}
use Rattle.std.proofs.lemmas.Bool.{and_from, and_parts, cases_Bool, cond-true, cond-false}
use Rattle.sqlite_disk.specs.declared.Disk.{Ghosts}
use Rattle.sqlite_wal.proofs.StateLemmas.{open_from}
use Rattle.sqlite_pager.specs.Pager.{page_count, visible}
use Rattle.exh_commit.specs.declared.paged_file.PagedFile.{PagedFile}
use Rattle.exh_commit.specs.PagedFile.{IsHonest, IsReady, bytes_in, files_in, known_in, state_in}
use Rattle.exh_commit.proofs.PageLemmas.{length_of}
use Rattle.exh_commit.proofs.ImageLemmas.{counted}

module _ {D : Type 0} {g : Ghosts D} where
  pub honest : (it : PagedFile D g) → ((file : D) → IsTrue (g.is_clean file)) → IsHonest it
  honest it law = and_from _ _ (law (files_in it).0) (law (files_in it).1)

  pub known_holds : (truthful : Bool) (it : PagedFile D g) (P : List ℕ → Type 0) → (IsTrue truthful → IsReady it → P (bytes_in it)) → IfSome (known_in truthful it) P
  known_holds truthful it P holds =
      elim (cases_Bool (truthful && (state_in it).is_ready)) [
        | inl yes' ↦ let both = and_parts _ _ yes' in subst (λ (known : Option (List ℕ)). IfSome known P) (sym (cond-true _ _ _ yes')) (holds both.0 both.1)
        | inr no' ↦ subst (λ (known : Option (List ℕ)). IfSome known P) (sym (cond-false _ _ _ no')) tt
      ]

  pub counted_blocks : (it : PagedFile D g) → IsReady it → IsHonest it → page_count it.pager ≡ length (bytes_in it) / 4096
  counted_blocks it ready clean =
      let all = counted it.pager (open_from (state_in it) ready clean) it.sized in
      omega (arith, length_of (page_count it.pager) (visible it.pager) all.sized)
