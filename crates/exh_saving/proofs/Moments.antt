-- What a crash may leave at a path, once a file got it and once it didn't.
use Rattle.std.proofs.Common.{◌≡◌, ◌⊎◌, ◌-◌, ◌<◌, ◌≤◌, ℕ, List, [], ◌∷◌, ◌++◌, length, drop, None, Option, Some, Ok, Err, Result, IfNone, IfOk, IfSome, sym, ap, subst, inl, inr, ⊎_elim, arith, length-append}
use Rattle.std.specs.Prelude.{Contains}
use Rattle.std.specs.declared.io.Error.{Error}
use Rattle.std.proofs.lemmas.Bool.{cases_lt}
use Rattle.std.proofs.lemmas.List.{drop-append-le}
use Rattle.std.proofs.lemmas.List.Elements.{Contains-push_cases}
use Rattle.std.proofs.Math.ListN.{drop_of_length-le}
use Rattle.exh_saving.specs.History.{File, History, LeavesOldOrNew, LeavesOnly, Standing, kept, placed}
use Rattle.exh_saving.specs.declared.fault.DiskFault.{DiskFault}
use Rattle.exh_saving.specs.Saved.{SavesAt, saved_history}
use Rattle.exh_saving.specs.declared.saving.Saved.{Saved}

none_left : {X : Type 0} (xs : List X) (n : ℕ) (x : X) → length xs ≤ n → Contains (drop n xs) x → ⊥
none_left xs n x long has =
    let is_in : has.0 < length (drop n xs) = has.1 in
    omega (arith, ap length (drop_of_length-le xs long), is_in)

-- an element behind the first ones is one that was there, or the new one
pushed : {X : Type 0} (n : ℕ) (xs : List X) (y x : X) → Contains (drop n (xs ++ y ∷ [])) x → Contains (drop n xs) x ⊎ (y ≡ x)
pushed n xs y x has = ⊎_elim
    (λ short. absurd (none_left (xs ++ y ∷ []) n x (omega (arith, length-append xs (y ∷ []))) has))
    (λ long. Contains-push_cases (drop n xs) y x (rw (drop-append-le n xs (y ∷ []) long) at has))
    (cases_lt (length xs) n)

-- a file that gets a path is left there, or what could be left before
place_leaves : (old : Option History) (has : Option (List ℕ)) (folder : Option Error) (IsNew : Standing → Type 0) → IsNew (File has) → LeavesOldOrNew old (saved_history old has folder) IsNew
place_leaves None has folder IsNew new left since = inl tt
place_leaves (Some old) has None IsNew new left since = ⊎_elim (λ was. inl was) (λ is. inr (subst IsNew is new)) (pushed old.gone old.stood (File has) left since)
place_leaves (Some old) has (Some error) IsNew new left since = ⊎_elim (λ was. inl was) (λ is. inr (subst IsNew is new)) (pushed old.gone old.stood (File has) left since)

-- once its folder is on the disk, it alone
kept_leaves : (old : Option History) (has : Option (List ℕ)) (IsNew : Standing → Type 0) → IsNew (File has) → LeavesOnly (kept (placed old has)) IsNew
kept_leaves None has IsNew new = tt
kept_leaves (Some old) has IsNew new = λ left may.
    let last = length (old.stood ++ File has ∷ []) - 1 in
    ⊎_elim
    (λ was. absurd (none_left old.stood last left (omega (arith, length-append old.stood (File has ∷ []))) was))
    (λ is. subst IsNew is new)
    (pushed last old.stood (File has) left may)

settled_leaves : (old : Option History) (has : Option (List ℕ)) (folder : Option Error) (IsNew : Standing → Type 0) → IsNew (File has)
    → IfNone folder (LeavesOnly (saved_history old has folder) IsNew)
settled_leaves old has None IsNew new = kept_leaves old has IsNew new
settled_leaves old has (Some error) IsNew new = tt

nothing_leaves : (old : Option History) (IsNew : Standing → Type 0) → LeavesOldOrNew old old IsNew
nothing_leaves None IsNew left since = inl tt
nothing_leaves (Some old) IsNew left since = inl since

-- where no file was saved what stood there stands there
pub stays_at : {F : Type 0} (old new : Option History) (holds : F → Option (List ℕ)) (IsNew : Standing → Type 0) (result : Result (Saved F) DiskFault)
    → new ≡ old → IfOk result (λ saved. saved.file ≡ None) → SavesAt old new holds IsNew result
stays_at {F = F} old new holds IsNew (Ok saved) same none = record {
  any_moment = subst (λ history. LeavesOldOrNew old history IsNew) (sym same) (nothing_leaves old IsNew);
  refused = tt;
  came = subst (λ (file : Option F). IfSome file (λ file. new ≡ saved_history old (holds file) saved.folder)) (sym none) tt;
  stayed = subst (λ (file : Option F). IfNone file (new ≡ old)) (sym none) same;
  settled = subst (λ (file : Option F). IfSome file (λ _. IfNone saved.folder (LeavesOnly new IsNew))) (sym none) tt;
}
stays_at {F = F} old new holds IsNew (Err fault) same none = record {
  any_moment = subst (λ history. LeavesOldOrNew old history IsNew) (sym same) (nothing_leaves old IsNew);
  refused = same;
  came = tt;
  stayed = tt;
  settled = tt;
}

-- where one was saved
pub saved_at : {F : Type 0} (old new : Option History) (holds : F → Option (List ℕ)) (folder : Option Error) (IsNew : Standing → Type 0) (file : F)
    → new ≡ saved_history old (holds file) folder → IsNew (File (holds file)) → SavesAt old new holds IsNew (Ok (record { file = Some file; folder = folder }))
saved_at old new holds folder IsNew file placed is_new = record {
  any_moment = subst (λ history. LeavesOldOrNew old history IsNew) (sym placed) (place_leaves old (holds file) folder IsNew is_new);
  refused = tt;
  came = placed;
  stayed = tt;
  settled = subst (λ history. IfNone folder (LeavesOnly history IsNew)) (sym placed) (settled_leaves old (holds file) folder IsNew is_new);
}
