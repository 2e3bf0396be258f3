-- A world stays sound where a request begins.
use Rattle.std.proofs.Common.{◌≡◌, ℕ, ◌<◌, ◌^◌, List, [], ◌∷◌, ◌++◌, length, take, slice_get, Some, refl, sym, ap, ◌∙◌, subst, arith}
use Rattle.exh_prefix.specs.Bits.{bits_of, number_of, word_bits}
use Rattle.exh_prefix.specs.BitLemmas.{bits_of-number_of, length-bits_of}
use Rattle.exh_prefix.specs.Prefix.{Begins}
use Rattle.exh_prefix.specs.PrefixLemmas.{begins_low}
use Rattle.exh_prefix.specs.PrefixListLemmas.{within_there}
use Rattle.exh_prefix.specs.LeadingLemmas.{length-leading_bits, leading-lt}
use Rattle.exh_table.specs.Table.{TableMap}
use Rattle.exh_table.specs.TableWalk.{walk_in, walk_of}
use Rattle.exh_legal.specs.BareLemmas.{at_bare, bare_low}
use Rattle.exh_legal.specs.LegalLaws.{IsBelow}
use Rattle.exh_page.specs.Page.{low_bound}
use Rattle.exh_calls.specs.Call.{key_of}
use Rattle.exh_ward.specs.WardState.{WardState, own_prefix}
use Rattle.exh_calls.specs.declared.call.Call.{Call}
use Rattle.exh_world.specs.InFlight.{Requests}
use Rattle.exh_world.specs.Sound.{LeadsRightIn, IsOnTheWay, IsSoundWorld}
use Rattle.exh_ward.specs.Distance.{IsDistance}
use Rattle.exh_world.specs.Step.{pseudokey_in, request_begun}
use Rattle.exh_prefix.specs.Leading.{ward_of, ward_prefix}
use Rattle.exh_world.specs.World.{WorldState, changes_in, numbered}
use Rattle.exh_world.specs.declared.request.Request.{Request}
use Rattle.exh_world.specs.RequestLemmas.{AllRequests, all_weaker, all_push}
use Rattle.exh_world.proofs.WalksBelow.{walk_below}
use Rattle.exh_world.proofs.SoundKept.{IsSoundAsTold, same_ward}

module _ {K : Type 0} (pseudokey_of : K → List ℕ → ℕ) (old : WorldState K) (sound : IsSoundWorld pseudokey_of old) where
  -- ---- the ward of a pseudokey

  pub ward_prefix_of : (pseudokey : ℕ) → ward_prefix old.ward_bits (ward_of old.ward_bits pseudokey) ≡ take old.ward_bits (word_bits pseudokey)
  ward_prefix_of pseudokey =
      let bits = take old.ward_bits (word_bits pseudokey) in
      ap (λ n. bits_of n (number_of bits)) (sym (length-leading_bits old.ward_bits pseudokey (omega (arith, sound.bits)))) ∙ bits_of-number_of bits

  pub ward_begins : (pseudokey : ℕ) → Begins (ward_prefix old.ward_bits (ward_of old.ward_bits pseudokey)) pseudokey
  ward_begins pseudokey = ap (λ n. take n (word_bits pseudokey)) (length-bits_of old.ward_bits (ward_of old.ward_bits pseudokey)) ∙ sym (ward_prefix_of pseudokey)

  pub ward_fits : (pseudokey : ℕ) → ward_of old.ward_bits pseudokey < 2 ^ old.ward_bits
  ward_fits pseudokey = leading-lt old.ward_bits pseudokey (omega (arith, sound.bits))

  pub ward_there : (pseudokey : ℕ) → (ward : WardState K) × (slice_get old.wards (ward_of old.ward_bits pseudokey) ≡ Some ward)
  ward_there pseudokey = within_there old.wards (ward_of old.ward_bits pseudokey) (omega (arith, ward_fits pseudokey, sound.count))

  -- ---- where a walk ends

  -- page 0 of a ward is at most each pseudokey of it
  zero_below : (number : ℕ) (ward : WardState K) → slice_get old.wards number ≡ Some ward → (pseudokey : ℕ) → pseudokey < 2 ^ 64 → Begins (ward_prefix old.ward_bits number) pseudokey → IsBelow ward.pages 0 pseudokey
  zero_below number ward is pseudokey small begins =
      let own = sound.wards number ward is in
      let first = own.sound.legal.legal.legal.linked.first in
      let full = at_bare ward.pages 0 first.0 first.1 in
      let prefix_is : own_prefix ward ≡ ward_prefix old.ward_bits number = ap (λ bits. ward_prefix bits ward.number) own.bits ∙ ap (ward_prefix old.ward_bits) own.number_is in
      let lower = (begins_low (own_prefix ward) pseudokey (omega (arith, sound.bits, own.bits, length-bits_of ward.ward_bits ward.number)) small (subst (λ p. Begins p pseudokey) (sym prefix_is) begins)).0 in
      (full.0, full.1, omega (arith, lower, first.3, ap low_bound full.2, bare_low full.0))

  pub walk_ends_below : (table : TableMap) → LeadsRightIn old table → (pseudokey : ℕ) → pseudokey < 2 ^ 64 → (ward : WardState K) → slice_get old.wards (ward_of old.ward_bits pseudokey) ≡ Some ward
      → IsBelow ward.pages (walk_of table old.ward_bits pseudokey).page pseudokey
  walk_ends_below table leads pseudokey small ward is =
      let number = ward_of old.ward_bits pseudokey in
      let below = walk_below (ward_prefix old.ward_bits number) ward.pages table pseudokey small (leads number ward is)
      (omega (arith, sound.bits, length-bits_of old.ward_bits number)) (ward_begins pseudokey) (zero_below number ward is pseudokey small (ward_begins pseudokey)) in
      subst (λ own. IsBelow ward.pages (walk_in table own pseudokey).page pseudokey) (ward_prefix_of pseudokey) below

  -- ---- the request begun

  abbrev pub with_requests : Requests → WorldState K
  with_requests requests = record old { in_flight = requests }

  same_way : (requests : Requests) (request : Request) → IsOnTheWay pseudokey_of old request → IsOnTheWay pseudokey_of (with_requests requests) request
  same_way requests request is = record { pseudokey_is = is.pseudokey_is; ward = is.ward; there = is.there; begins = is.begins; below = is.below; since = is.since; left = is.left; is_left = is.is_left; few = is.few }

  pub requests_sound : (requests : Requests) → AllRequests (IsOnTheWay pseudokey_of old) requests → IsSoundAsTold pseudokey_of (with_requests requests)
  requests_sound requests all told = record {
    bits = sound.bits;
    words = sound.words;
    count = sound.count;
    wards = λ number ward is. same_ward pseudokey_of old old.wards old.copies old.sent requests number ward (sound.wards number ward is);
    start = sound.start;
    copies = sound.copies;
    sent = sound.sent;
    told = told;
    requests = all_weaker _ _ (same_way requests) requests all;
  }

  pub begun_sound : (name client : ℕ) (call : Call) (table : TableMap) (copy : ℕ) → numbered old.copies copy ≡ Some table
      → (ward : WardState K) → slice_get old.wards (ward_of old.ward_bits (pseudokey_in pseudokey_of old call)) ≡ Some ward
      → (distance : ℕ) → IsDistance ward.pages (walk_of table old.ward_bits (pseudokey_in pseudokey_of old call)).page (pseudokey_in pseudokey_of old call) distance
      → IsSoundAsTold pseudokey_of (with_requests (old.in_flight
      ++ (name, request_begun client call (pseudokey_in pseudokey_of old call) (ward_of old.ward_bits (pseudokey_in pseudokey_of old call)) (walk_of table old.ward_bits (pseudokey_in pseudokey_of old call)).page distance (length (changes_in old (ward_of old.ward_bits (pseudokey_in pseudokey_of old call))))) ∷ []))
  begun_sound name client call table copy is ward there distance is_distance =
      let k = pseudokey_in pseudokey_of old call in
      requests_sound _ (all_push _ old.in_flight name _ sound.requests record {
        pseudokey_is = refl;
        ward = ward;
        there = there;
        begins = ward_begins k;
        below = walk_ends_below table (sound.copies copy table is) k (sound.words (key_of call)) ward there;
        since = omega arith;
        left = distance;
        is_left = is_distance;
        few = omega arith;
      })
