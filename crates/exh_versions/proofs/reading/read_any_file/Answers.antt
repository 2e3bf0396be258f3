use Rattle.std.proofs.Common.{◌≡◌, ℕ, List, length, take, Option, Some, Result, Ok, Err, inl, inr, sym, ◌∙◌, subst, arith}
use Rattle.std.specs.Prelude.{IfErr, MatchResult}
use Rattle.std.specs.Fmt.{option_append}
use Rattle.std.proofs.lemmas.List.{length-take}
use Rattle.exh_format.specs.FileVersion.{version_of}
use Rattle.exh_format.specs.LegalFile.{IsLegalFileFaultOf, IsOtherFault}
use Rattle.exh_format.specs.PageFile.{PageFile}
use Rattle.exh_versions.specs.AnyFile.{any_file_read}
use Rattle.exh_versions.specs.FirstFault.{IsFirstFaultOf}
use Rattle.exh_versions.specs.LegalBytes.{SaysPlaced}
use Rattle.exh_versions.specs.LegalReading.{IsLegalPlacedFaultOf}
use Rattle.exh_versions.specs.VersionLemmas.{says_placed, says_plain}
use Rattle.exh_versions.proofs.Read.{known_again, plain_fault, placed_fault, says_same}
use Rattle.exh_versions.proofs.reading.read_any_file.Goals as goal

-- a fact of the fault of a result
on_err : {V F : Type 0} (P Q : F → Type 0) (result : Result V F) → ((fault : F) → P fault → Q fault) → IfErr result P → IfErr result Q
on_err P Q (Ok value) weaker told = tt
on_err P Q (Err fault) weaker told = weaker fault told

pub returns-then-is_placed-clause-fault : goal.returns-then-is_placed-clause-fault
returns-then-is_placed-clause-fault g c =
    let known = g.R.Read.remaining c.args.reader.now in
    let rest = g.R.Read.remaining c.read_front.new.reader in
    let front = take c.in_ok-count.count c.read_front.new.front in
    let again : (all : List ℕ) → known ≡ Some all → option_append (Some front) rest ≡ Some all = known_again known rest front c.in_ok-count.ensures.bytes in
    let long : length front ≡ c.in_ok-count.count = omega (arith, length-take c.in_ok-count.count c.read_front.new.front, c.read_front.array_long, c.in_ok-count.ensures.within) in
    let same = says_same known rest front c.in_ok-count.count c.in_ok-count.ensures.bytes long c.in_ok-count.ensures.within c.in_ok-count.ensures.end in
    on_err _ (IsFirstFaultOf known) c.read_placed.result
    (λ fault told. placed_fault known (option_append (Some front) rest) front again same fault (c.says_placed-is_placed.ensures.0 c.if-is_placed.true) (subst (λ (whole : Option (List ℕ)). IsLegalPlacedFaultOf whole fault) c.chain-whole.ensures.bytes told))
    c.read_placed.ensures.fault

pub returns-then-is_placed-clause-every : goal.returns-then-is_placed-clause-every
returns-then-is_placed-clause-every g c file bytes knows small is =
    let known = g.R.Read.remaining c.args.reader.now in
    let rest = g.R.Read.remaining c.read_front.new.reader in
    let front = take c.in_ok-count.count c.read_front.new.front in
    let again : (all : List ℕ) → known ≡ Some all → option_append (Some front) rest ≡ Some all = known_again known rest front c.in_ok-count.ensures.bytes in
    let long : length front ≡ c.in_ok-count.count = omega (arith, length-take c.in_ok-count.count c.read_front.new.front, c.read_front.array_long, c.in_ok-count.ensures.within) in
    let same = says_same known rest front c.in_ok-count.count c.in_ok-count.ensures.bytes long c.in_ok-count.ensures.within c.in_ok-count.ensures.end in
    let says : SaysPlaced bytes = sym (same bytes knows) ∙ c.says_placed-is_placed.ensures.0 c.if-is_placed.true in
    elim is [
      | inl page ↦ absurd (says_plain (version_of bytes) file bytes page.is says)
      | inr placed ↦ subst (λ (file : PageFile). MatchResult c.read_placed.result (λ found. any_file_read g.W.PageList.pages found ≡ file) IsOtherFault) (sym placed.says)
          (c.read_placed.ensures.every placed.placed placed.tables bytes (c.chain-whole.ensures.bytes ∙ again bytes knows) small placed.legal)
    ]

pub returns-else-is_placed-clause-fault : goal.returns-else-is_placed-clause-fault
returns-else-is_placed-clause-fault g c =
    let known = g.R.Read.remaining c.args.reader.now in
    let rest = g.R.Read.remaining c.read_front.new.reader in
    let front = take c.in_ok-count.count c.read_front.new.front in
    let again : (all : List ℕ) → known ≡ Some all → option_append (Some front) rest ≡ Some all = known_again known rest front c.in_ok-count.ensures.bytes in
    let long : length front ≡ c.in_ok-count.count = omega (arith, length-take c.in_ok-count.count c.read_front.new.front, c.read_front.array_long, c.in_ok-count.ensures.within) in
    let same = says_same known rest front c.in_ok-count.count c.in_ok-count.ensures.bytes long c.in_ok-count.ensures.within c.in_ok-count.ensures.end in
    let other : SaysPlaced front → ⊥ = λ says. (let both = sym (c.says_placed-is_placed.ensures.1 says) ∙ c.if-is_placed.false in cc) in
    on_err _ (IsFirstFaultOf known) c.read_plain.result
    (λ fault told. plain_fault known (option_append (Some front) rest) front again same fault other (subst (λ (whole : Option (List ℕ)). IsLegalFileFaultOf whole fault) c.chain-whole.ensures.bytes told))
    c.read_plain.ensures.fault

pub returns-else-is_placed-clause-every : goal.returns-else-is_placed-clause-every
returns-else-is_placed-clause-every g c file bytes knows small is =
    let known = g.R.Read.remaining c.args.reader.now in
    let rest = g.R.Read.remaining c.read_front.new.reader in
    let front = take c.in_ok-count.count c.read_front.new.front in
    let again : (all : List ℕ) → known ≡ Some all → option_append (Some front) rest ≡ Some all = known_again known rest front c.in_ok-count.ensures.bytes in
    let long : length front ≡ c.in_ok-count.count = omega (arith, length-take c.in_ok-count.count c.read_front.new.front, c.read_front.array_long, c.in_ok-count.ensures.within) in
    let same = says_same known rest front c.in_ok-count.count c.in_ok-count.ensures.bytes long c.in_ok-count.ensures.within c.in_ok-count.ensures.end in
    elim is [
      | inl page ↦ c.read_plain.ensures.every file bytes (c.chain-whole.ensures.bytes ∙ again bytes knows) small page
      | inr placed ↦ (let both = sym (c.says_placed-is_placed.ensures.1 (same bytes knows ∙ says_placed placed.placed bytes placed.legal.is)) ∙ c.if-is_placed.false in cc)
    ]
