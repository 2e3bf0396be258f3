-- What an output takes of the entries of a table.
use Rattle.std.proofs.Common.{◌≡◌, ℕ, List, [], ◌∷◌, ◌++◌, length, take, Option, Result, OnOk, OnErr, refl, sym, ap, ◌∙◌, subst, append-nil, arith}
use Rattle.std.proofs.lemmas.List.{take_all}
use Rattle.std.proofs.lemmas.Result.{on_ok_weaker, on_err_weaker}
use Rattle.std.specs.Io.KnownBytes.{Appends}
use Rattle.std.proofs.KnownBytes.{Appends-trans}
use Rattle.exh_prefix.specs.Version.{Version}
use Rattle.exh_stream.specs.Output.{AppendsBeginning, Takes, TakesBeginning, held, pending}
use Rattle.exh_stream.specs.OutputLemmas.{AppendsBeginning-after}
use Rattle.exh_stream.specs.declared.output.Output.{Output}
use Rattle.exh_codec.specs.Block.{sealed}
use Rattle.exh_codec.specs.PageImage.{padded}
use Rattle.exh_format.specs.declared.file_entry.FileEntry.{FileEntry}
use Rattle.exh_format.specs.TableImage.{image_of}
use Rattle.exh_format.specs.WritingLemmas.{padded_full}
use Rattle.exh_format.specs.Writing.{OnItsWay, TakesEntries, TakesEntriesBeginning, full_blocks, last_block, unsent}

-- ---- the blocks of a table

-- images that fill a block
one_full : (images : List ℕ) → length images ≡ 4064 → sealed (padded 4064 images) ≡ full_blocks 1 images
one_full images full = ap sealed (padded_full images full ∙ sym (take_all 4064 images (omega (arith, full)))) ∙ sym (append-nil (sealed (take 4064 images)))

module _ {W : Type 0} (contents : W → Option (List ℕ)) (version : Version) (old new : OnItsWay W) (item : FileEntry) where
  -- an entry joins those that wait,
  pub joins : Takes contents old.output new.output [] → new.images ≡ old.images ++ image_of version item → TakesEntries contents version old new (item ∷ [])
  joins passed waits = record {
    blocks = 0;
    images = [];
    split = ap (λ (images : List ℕ). old.images ++ images) (append-nil (image_of version item)) ∙ sym waits;
    full = refl;
    passed = passed;
  }

  -- or waits alone, where those before it fill a block
  pub follows : length old.images ≡ 4064 → Takes contents old.output new.output (sealed (padded 4064 old.images)) → new.images ≡ image_of version item
      → TakesEntries contents version old new (item ∷ [])
  follows full passed waits = record {
    blocks = 1;
    images = old.images;
    split = ap (λ (images : List ℕ). old.images ++ images) (append-nil (image_of version item) ∙ sym waits);
    full = omega (arith, full);
    passed = subst (Takes contents old.output new.output) (one_full old.images full) passed;
  }

  -- the writer failed before
  pub stays_out : TakesBeginning contents old.output new.output [] → TakesEntriesBeginning contents version old new (item ∷ [])
  stays_out passed = record {
    blocks = 0;
    images = [];
    rest = old.images ++ (image_of version item ++ []);
    split = refl;
    full = refl;
    passed = passed;
  }

  -- or at the block of those before it
  pub stops_before : length old.images ≡ 4064 → TakesBeginning contents old.output new.output (sealed (padded 4064 old.images)) → TakesEntriesBeginning contents version old new (item ∷ [])
  stops_before full passed = record {
    blocks = 1;
    images = old.images;
    rest = image_of version item ++ [];
    split = refl;
    full = omega (arith, full);
    passed = subst (TakesBeginning contents old.output new.output) (one_full old.images full) passed;
  }

-- ---- the end

module _ {W T E : Type 0} (contents : W → Option (List ℕ)) (old : OnItsWay W) (mid new : Output W) (result : Result T E) (taken : Takes contents old.output mid (last_block old.images)) where
  -- all that is on its way was written
  pub all_out : OnOk result (Appends (held contents mid) (held contents new) (pending mid)) → OnOk result (Appends (held contents old.output) (held contents new) (unsent old))
  all_out gone =
      let step : Appends (held contents mid) (held contents new) (pending mid) → Appends (held contents old.output) (held contents new) (unsent old) =
      λ gone. subst (Appends (held contents old.output) (held contents new)) (sym taken.passed.split) (Appends-trans _ _ _ taken.passed.front (pending mid) taken.passed.gone gone) in
      on_ok_weaker result step gone

  -- a beginning of it was
  pub some_out : OnErr result (AppendsBeginning (held contents mid) (held contents new) (pending mid)) → OnErr result (AppendsBeginning (held contents old.output) (held contents new) (unsent old))
  some_out gone =
      let step : AppendsBeginning (held contents mid) (held contents new) (pending mid) → AppendsBeginning (held contents old.output) (held contents new) (unsent old) =
      λ gone. AppendsBeginning-after taken.passed gone in
      on_err_weaker result step gone
