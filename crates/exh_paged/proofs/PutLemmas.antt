-- Puts with a condition: the reply to the put tells what the key was.
use Rattle.std.proofs.Common.{◌≡◌, ℕ, Bool, true, false, List, [], Option, None, Some, inl, inr, refl, sym, ◌∙◌, ap, subst}
use Rattle.std.specs.FinMap as fin
use Rattle.exh_keyer.specs.Pseudokey.{any_pseudokey}
use Rattle.exh_table.specs.Table.{TableMap}
use Rattle.exh_page.specs.KeyMap.{KeyMap}
use Rattle.exh_calls.specs.Effect.{Effect, effect_of}
use Rattle.exh_calls.specs.MapMachine.{changed, is_full, map_after, reply_of}
use Rattle.exh_calls.specs.declared.call.Call.TheVariants.{Get, Put}
use Rattle.exh_calls.specs.declared.reply.Reply.{Reply}
use Rattle.exh_cells.specs.LegalPlaced.{IsLegalPlacedFile}
use Rattle.exh_cells.specs.PlacedFile.{PlacedFile}
use Rattle.exh_commit.specs.declared.BlockEdit.{BlockEdit}
use Rattle.exh_commit.specs.BlockEdits.{with_edits}
use Rattle.exh_change.specs.PlacedLaws.{map_in}
use Rattle.exh_change.specs.declared.Changed.{Changed}
use Rattle.exh_change.specs.ChangeLaws.{IsChange, map_then, reply_in}
use Rattle.exh_paged.specs.CallChange.{AreWithin, IsMade, IsStamped}
use Rattle.exh_paged.specs.PutIf.{call_for, call_in, edits_kept, reply_kept}
use Rattle.exh_paged.specs.declared.put_if.KeyIs.{KeyIs}
use Rattle.exh_paged.specs.declared.put_if.KeyIs.TheVariants.{New, There}
use Rattle.exh_paged.specs.declared.put_if.PutIf.{PutIf}
use Rattle.exh_paged.proofs.EditLemmas.{none_within}

-- ---- by what the key is, and whether new keys are turned away

abbrev put_effect : List ℕ → List ℕ → Bool → Option (List ℕ) → Effect
put_effect key value full stood = effect_of (Put key value) full stood

abbrev call_effect : KeyIs → List ℕ → List ℕ → Bool → Option (List ℕ) → Effect
call_effect key_is key value full stood = effect_of (call_for key_is key value stood) full stood

reply_by : (key_is : KeyIs) (key value : List ℕ) (full : Bool) (stood : Option (List ℕ)) → reply_kept key_is (put_effect key value full stood).reply ≡ (call_effect key_is key value full stood).reply
reply_by New key value true None = refl
reply_by New key value false None = refl
reply_by New key value full (Some stood) = refl
reply_by There key value true None = refl
reply_by There key value false None = refl
reply_by There key value full (Some stood) = refl

pairs_by : (P : List BlockEdit → KeyMap → Type 0) (m : KeyMap) (edits : List BlockEdit) (key_is : KeyIs) (key value : List ℕ) (full : Bool) (stood : Option (List ℕ)) → P [] m → P edits (changed (put_effect key value full stood).change key m)
    → P (edits_kept key_is (put_effect key value full stood).reply edits) (changed (call_effect key_is key value full stood).change key m)
pairs_by P m edits New key value true None same put = put
pairs_by P m edits New key value false None same put = put
pairs_by P m edits New key value full (Some stood) same put = same
pairs_by P m edits There key value true None same put = same
pairs_by P m edits There key value false None same put = same
pairs_by P m edits There key value full (Some stood) same put = put

-- what is left of a legal page file by edits
record IsLeftBy (file : PlacedFile) (bytes : List ℕ) (stamp : ℕ) (edits : List BlockEdit) (pairs : KeyMap) : Type 0 where
  new : PlacedFile
  tables : List TableMap
  legal : IsLegalPlacedFile new tables (with_edits edits bytes)
  pairs_are : map_in new ≡ pairs
  stamped : IsStamped file stamp edits new
  within : AreWithin bytes edits

-- ---- over a map: the call's own key is the put's

module _ (cap : ℕ) (pseudo : List ℕ → ℕ) (m : KeyMap) (key value : List ℕ) where
  abbrev full : Bool
  full = is_full cap pseudo m key

  abbrev stands : Option (List ℕ)
  stands = fin.get m key

  reply_is_for : (key_is : KeyIs) (stood : Option (List ℕ)) → stands ≡ stood → reply_of cap pseudo m (call_for key_is key value stood) ≡ (call_effect key_is key value full stood).reply
  reply_is_for New None is = ap (λ (s : Option (List ℕ)). (effect_of (Put key value) full s).reply) is
  reply_is_for New (Some stood) is = ap (λ (s : Option (List ℕ)). (effect_of (Get key) full s).reply) is
  reply_is_for There None is = ap (λ (s : Option (List ℕ)). (effect_of (Get key) full s).reply) is
  reply_is_for There (Some stood) is = ap (λ (s : Option (List ℕ)). (effect_of (Put key value) full s).reply) is

  map_is_for : (key_is : KeyIs) (stood : Option (List ℕ)) → stands ≡ stood → map_after cap pseudo m (call_for key_is key value stood) ≡ changed (call_effect key_is key value full stood).change key m
  map_is_for New None is = ap (λ (s : Option (List ℕ)). changed (effect_of (Put key value) full s).change key m) is
  map_is_for New (Some stood) is = ap (λ (s : Option (List ℕ)). changed (effect_of (Get key) full s).change key m) is
  map_is_for There None is = ap (λ (s : Option (List ℕ)). changed (effect_of (Get key) full s).change key m) is
  map_is_for There (Some stood) is = ap (λ (s : Option (List ℕ)). changed (effect_of (Put key value) full s).change key m) is

  pub reply_for : (key_is : KeyIs) → reply_kept key_is (reply_of cap pseudo m (Put key value)) ≡ reply_of cap pseudo m (call_for key_is key value stands)
  reply_for key_is = reply_by key_is key value full stands ∙ sym (reply_is_for key_is stands refl)

  pub pairs_for : (P : List BlockEdit → KeyMap → Type 0) (edits : List BlockEdit) (key_is : KeyIs) → P [] m → P edits (map_after cap pseudo m (Put key value))
      → P (edits_kept key_is (reply_of cap pseudo m (Put key value)) edits) (map_after cap pseudo m (call_for key_is key value stands))
  pairs_for P edits key_is same put =
      subst (λ (left : KeyMap). P (edits_kept key_is (reply_of cap pseudo m (Put key value)) edits) left) (sym (map_is_for key_is stands refl))
      (pairs_by P m edits key_is key value full stands same put)

-- ---- over a page file

pub put_made : (put : PutIf) (stamp : ℕ) (bytes : List ℕ) (made : Changed) (reply : Reply) (edits : List BlockEdit) → reply ≡ reply_kept put.key_is made.reply → edits ≡ edits_kept put.key_is made.reply made.edits.items
    → (file : PlacedFile) (tables : List TableMap) → IsLegalPlacedFile file tables bytes → AreWithin bytes made.edits.items → IsChange file bytes (Put put.key put.value) stamp made
    → IsMade ⊥ file bytes (map_then file (call_in file put)) (λ (stamp : ℕ) (reply : Reply). reply ≡ reply_in file (call_in file put)) stamp reply edits
put_made put stamp bytes made reply edits reply_is edits_are file tables legal within is =
    let cap = file.header.settings.cap in
    let pseudo : List ℕ → ℕ = any_pseudokey file.header.settings.keyer in
    let same : IsLeftBy file bytes stamp [] (map_in file) = record { new = file; tables = tables; legal = legal; pairs_are = refl; stamped = inl refl; within = none_within bytes } in
    let after : IsLeftBy file bytes stamp made.edits.items (map_then file (Put put.key put.value)) =
    record { new = is.new; tables = is.tables; legal = is.legal; pairs_are = is.map_is; stamped = elim is.stamped [ inl none ↦ inl none.0 | inr both ↦ inr both ]; within = within } in
    let edits_so : edits ≡ edits_kept put.key_is (reply_in file (Put put.key put.value)) made.edits.items = edits_are ∙ ap (λ (answer : Reply). edits_kept put.key_is answer made.edits.items) is.reply in
    let left : IsLeftBy file bytes stamp edits (map_then file (call_in file put)) = subst (λ (edits : List BlockEdit). IsLeftBy file bytes stamp edits (map_then file (call_in file put))) (sym edits_so)
    (pairs_for cap pseudo (map_in file) put.key put.value (IsLeftBy file bytes stamp) made.edits.items put.key_is same after) in
    record {
      new = left.new;
      tables = left.tables;
      legal = left.legal;
      pairs_are = left.pairs_are;
      answer_is = reply_is ∙ ap (reply_kept put.key_is) is.reply ∙ reply_for cap pseudo (map_in file) put.key put.value put.key_is;
      stamped = left.stamped;
      within = left.within;
      idle = λ never. absurd never;
    }
