-- The home of a pseudokey, which the ward's own table names, and how deep it is after splits.
use Rattle.std.proofs.Common.{◌≡◌, inl, inr, ℕ, ◌+◌, ◌≤◌, ◌<◌, ◌^◌, Bool, true, false, List, [], ◌∷◌, ◌++◌, length, take, Option, sym, ap, ◌∙◌, subst, arith}
use Rattle.std.proofs.lemmas.Bool.{cases_eq}
use Rattle.std.proofs.lemmas.List.{length_push}
use Rattle.exh_prefix.specs.BitLemmas.{length-bits_of}
use Rattle.exh_prefix.specs.Bits.{word_bits}
use Rattle.exh_prefix.specs.PrefixListLemmas.{one_there}
use Rattle.exh_prefix.specs.LowLemmas.{front_shorter}
use Rattle.exh_prefix.specs.Prefix.{Begins, low_of}
use Rattle.exh_prefix.specs.PrefixLemmas.{begins_low}
use Rattle.exh_prefix.specs.declared.prefix.TheConstants.{LIMIT}
use Rattle.exh_table.specs.declared.leaf.Leaf.{Leaf}
use Rattle.exh_table.specs.TableWalk.{walk_in, walk_of}
use Rattle.exh_page.specs.declared.page.Page.{Page}
use Rattle.exh_page.specs.declared.page.Page.TheVariants.{Live, Forward}
use Rattle.exh_page.specs.declared.record.Record.{Record}
use Rattle.exh_legal.specs.BareLemmas.{bare_at}
use Rattle.exh_legal.specs.Change.{IsSplit}
use Rattle.exh_legal.specs.LegalLaws.{NamesHome}
use Rattle.exh_legal.specs.Pages.{IsAt, AreLinked, bare}
use Rattle.exh_calls.specs.Call.{key_of}
use Rattle.exh_calls.specs.declared.call.Call.{Call}
use Rattle.exh_ward.specs.HopTable.{HopOf, LeadsTo}
use Rattle.exh_ward.specs.declared.hop.Hop.{Hop}
use Rattle.exh_ward.specs.declared.hop.Hop.TheVariants.{Moved, MustSplit, Stray}
use Rattle.exh_ward.specs.WardState.{WardState, IsSoundWard, LeavesAfter, own_prefix}
use Rattle.exh_file.specs.declared.ward_change.TheConstants.{CHANGER}
use Rattle.exh_file.specs.WardChange.{IsFullAt, IsHomeAt}

-- each home of the pseudokey has a prefix of at least so many bits
abbrev pub HomesAreDeep : ℕ → List Page → ℕ → Type 0
HomesAreDeep deep pages pseudokey =
    (number : ℕ) (prefix : List Bool) (link : Option ℕ) (records : List Record) → IsAt pages number (Live prefix link records) → Begins prefix pseudokey → deep ≤ length prefix

own_front : {K : Type 0} (ward : WardState K) (pseudokey : ℕ) → Begins (own_prefix ward) pseudokey → take ward.ward_bits (word_bits pseudokey) ≡ own_prefix ward
own_front ward pseudokey covered = ap (λ (n : ℕ). take n (word_bits pseudokey)) (sym (length-bits_of ward.ward_bits ward.number)) ∙ covered

-- ---- what the table names is the home

module _ {K : Type 0} (pseudokey_of : K → List ℕ → ℕ) (ward : WardState K) (pseudokey : ℕ) (sound : IsSoundWard pseudokey_of ward) where
  linked : AreLinked (own_prefix ward) (bare ward.pages)
  linked = sound.legal.legal.legal.linked

  module _ (named : NamesHome (own_prefix ward) ward.start ward.notices ward.table ward.pages pseudokey) where
    pub bits_few : ward.ward_bits ≤ LIMIT
    bits_few =
        let within = linked.within named.leaf.page _ (bare_at ward.pages named.leaf.page _ named.live.2) in
        omega (arith, within.1, front_shorter (own_prefix ward) named.leaf.prefix within.0, length-bits_of ward.ward_bits ward.number)

    pub home_named : (at : ℕ) → Begins (own_prefix ward) pseudokey → at ≡ (walk_of ward.table ward.ward_bits pseudokey).page → IsHomeAt ward.pages pseudokey at
    home_named at covered at_is =
        let page : at ≡ named.leaf.page =
        at_is ∙ ap (λ (own : List Bool). (walk_in ward.table own pseudokey).page) (own_front ward pseudokey covered) ∙ ap (λ (leaf : Leaf). leaf.page) named.walk in
        record {
          prefix = named.leaf.prefix;
          link = named.live.0;
          records = named.live.1;
          there = subst (λ n. IsAt ward.pages n (Live named.leaf.prefix named.live.0 named.live.1)) (sym page) named.live.2;
          begins = named.name.begins;
        }

  module _ (at : ℕ) (home : IsHomeAt ward.pages pseudokey at) (small : pseudokey < 2 ^ 64) where
    home_low : low_of home.prefix ≤ pseudokey
    home_low =
        let short = (linked.within at _ (bare_at ward.pages at _ home.there)).1 in
        (begins_low home.prefix pseudokey (omega (arith, short)) small home.begins).0

    module _ (call : Call) (hashed : pseudokey ≡ pseudokey_of ward.keyer (key_of call)) where
      pub never_stray : HopOf ward.cap (pseudokey_of ward.keyer) ward.pages at call Stray → ⊥
      never_stray stray = stray (Live home.prefix home.link home.records) (record { there = home.there; below = subst (λ k. low_of home.prefix ≤ k) hashed home_low })

      pub never_moved : (next : ℕ) → HopOf ward.cap (pseudokey_of ward.keyer) ward.pages at call (Moved next) → ⊥
      never_moved next moved =
          let page_is = one_there ward.pages at moved.0 (Live home.prefix home.link home.records) moved.1.there home.there in
          let leads : LeadsTo (Live home.prefix home.link home.records) (pseudokey_of ward.keyer (key_of call)) next = subst (λ p. LeadsTo p (pseudokey_of ward.keyer (key_of call)) next) page_is moved.2 in
          leads.0 (subst (Begins home.prefix) hashed home.begins)

-- ---- a page that must be split

-- the home, full and shorter than LIMIT
pub record IsFullHome {K : Type 0} (ward : WardState K) (pseudokey at : ℕ) : Type 0 where
  pub full : IsFullAt ward at
  pub begins : Begins full.prefix pseudokey

full_from : {K : Type 0} (pseudokey_of : K → List ℕ → ℕ) (ward : WardState K) (at : ℕ) (call : Call) → HopOf ward.cap (pseudokey_of ward.keyer) ward.pages at call MustSplit
    → IsFullHome ward (pseudokey_of ward.keyer (key_of call)) at
full_from pseudokey_of ward at call (Live prefix link records, reached, home, over) = record {
  full = record { prefix = prefix; link = link; records = records; there = reached.there; full = over.1; short = over.2 };
  begins = home;
}
full_from pseudokey_of ward at call (Forward low target, reached, home, over) = absurd home

pub full_home : {K : Type 0} (pseudokey_of : K → List ℕ → ℕ) (ward : WardState K) (at : ℕ) (call : Call) (hop : Hop) → hop ≡ MustSplit → HopOf ward.cap (pseudokey_of ward.keyer) ward.pages at call hop
    → IsFullHome ward (pseudokey_of ward.keyer (key_of call)) at
full_home pseudokey_of ward at call hop is table = full_from pseudokey_of ward at call (subst (HopOf ward.cap (pseudokey_of ward.keyer) ward.pages at call) is table)

pub left_same : {K : Type 0} (pseudokey_of : K → List ℕ → ℕ) (ward new : WardState K) (at : ℕ) (call : Call) (hop : Hop) → hop ≡ MustSplit → LeavesAfter pseudokey_of ward at CHANGER call hop new → new ≡ ward
left_same pseudokey_of ward new at call hop is leaves = subst (λ h. LeavesAfter pseudokey_of ward at CHANGER call h new) is leaves

-- ---- after a split of the home

module _ (ward : List Bool) (pages new : List Page) (cap pseudokey at deep right : ℕ) (prefix : List Bool) (linked : AreLinked ward (bare pages)) (parted : IsSplit cap pages at prefix right new)
    (begins : Begins prefix pseudokey) (before : HomesAreDeep deep pages pseudokey) where
  half_deep : (bit : Bool) (half : List Bool) → half ≡ prefix ++ bit ∷ [] → deep + 1 ≤ length half
  half_deep bit half is = omega (arith, ap length is, length_push prefix bit, before at prefix parted.link parted.records parted.there begins)

  pub split_deep : HomesAreDeep (deep + 1) new pseudokey
  split_deep number half link records there begun = elim (cases_eq number at) [
    | inl same ↦
        let page = one_there new at (Live half link records) _ (subst (λ n. IsAt new n (Live half link records)) same there) parted.left in
        let half_is : half ≡ prefix ++ false ∷ [] = cc in
        half_deep false half half_is
    | inr not_left ↦ elim (cases_eq number right) [
      | inl same ↦
          let page = one_there new right (Live half link records) _ (subst (λ n. IsAt new n (Live half link records)) same there) parted.right_half in
          let half_is : half ≡ prefix ++ true ∷ [] = cc in
          half_deep true half half_is
      | inr not_right ↦
          let stood : IsAt pages number (Live half link records) = sym (parted.others number not_left not_right) ∙ there in
          absurd (not_left (linked.one_home pseudokey number at _ _ (bare_at pages number _ stood) (bare_at pages at _ parted.there) begun begins))
    ]
  ]
