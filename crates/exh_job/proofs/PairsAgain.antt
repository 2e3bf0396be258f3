-- What `load` makes of the text of a legal file's pairs.
use Rattle.std.proofs.Common.{◌≡◌, ◌∙◌, ℕ, ◌≤◌, List, [], ◌∷◌, ◌++◌, map, Some, Result, Ok, Err, codes, refl, sym, ap, ap₂, subst, ◌+◌, ◌-◌, ◌^◌, zero, suc, nat_cmp, arith}
use Rattle.std.specs.FinMap as fin
use Rattle.std.specs.Cmp.Lexicographic.{slice_cmp}
use Rattle.std.specs.Prelude.{replicate}
use Rattle.std.specs.List.{AllByRecursion, flat_map, sum_by}
use Rattle.std.proofs.lemmas.List.Concat.{flat_map-append}
use Rattle.std.proofs.lemmas.List.Folds.{sum_by-replicate}
use Rattle.exh_keyer.specs.Pseudokey.{any_pseudokey}
use Rattle.exh_keyer.specs.declared.any_keyer.AnyKeyer.{AnyKeyer}
use Rattle.exh_page.specs.FileSettings.{AreInRange}
use Rattle.exh_page.specs.declared.file_settings.FileSettings.{FileSettings}
use Rattle.exh_page.specs.KeyMap.{KeyMap, pair_of}
use Rattle.exh_page.specs.Page.{records_of}
use Rattle.exh_page.specs.declared.page.Page.{Page}
use Rattle.exh_page.specs.declared.record.Record.{Record}
use Rattle.exh_text.specs.TextLines.{lines_of}
use Rattle.exh_text.specs.declared.line_fault.LineFault.{LineFault}
use Rattle.exh_calls.specs.Effect.{Effect}
use Rattle.exh_calls.specs.MapMachine.{changed, effect_in}
use Rattle.exh_calls.specs.declared.call.Call.TheVariants.{Put}
use Rattle.exh_legal.specs.MapLemmas.{map_of_records}
use Rattle.exh_format.specs.PageFile.{PageFile, pages_of}
use Rattle.exh_format.specs.Reading.{AreBytes}
use Rattle.exh_report.specs.VersionLaws.{LegalBytesAreFiles}
use Rattle.exh_report.specs.VersionLemmas.{pages_are_bytes}
use Rattle.exh_report.specs.ReportLines.{Lines, lines_text}
use Rattle.exh_report.specs.PairsText.{first_words, pairs_lines, record_words, records_lines, settings_over}
use Rattle.exh_report.specs.declared.other_settings.OtherSettings.{OtherSettings}
use Rattle.exh_load.specs.Load.{at_end, empty_loading, load_after, load_of_lines, number_line, record_count, new_file}
use Rattle.exh_load.specs.Loading.{Loading, after_pair_line, after_read_pair, load_text_from, loaded_from, pair_told, put_text}
use Rattle.exh_load.specs.FileChange.{AreParts}
use Rattle.exh_load.specs.OneMap.{NewMapsAreNone, LoadsAreOneMaps, pair_in, pairs_of, puts_left, text_by_one, told_by_one}
use Rattle.exh_job.specs.PairsAgain.{LoadsAgain, PairsLoadAgain, TellsAgain}
use Rattle.exh_job.specs.declared.file_run.Topic.{Topic}
use Rattle.exh_job.specs.declared.file_run.Topic.TheVariants.{Size, Content, Pairs}
use Rattle.exh_job.proofs.PairsBytes.{file_tellable}
use Rattle.exh_job.proofs.PairsFit.{AllFit, all_fit, put_new, pushed, puts_fit}
use Rattle.exh_job.proofs.PairsHomes.{file_good}
use Rattle.exh_job.proofs.PairsText.{IsTellable, first_again, lines_again, text_lines, told_again}

-- ---- the lines of records

-- each is told as its pair
told_pairs : (records : List Record) → AllByRecursion IsTellable records → pairs_of (map record_words records) ≡ map pair_of records
told_pairs [] can = refl
told_pairs (r ∷ records) can = ap₂ (λ told l. pair_in told ++ l) (told_again r can.0) (told_pairs records can.1)

-- where they fit, nothing is printed of them
silent : (cap : ℕ) (pseudo : List ℕ → ℕ) (done rest : List Record) → AllFit cap pseudo done rest → AllByRecursion IsTellable rest → text_by_one cap pseudo (map_of_records done) (map record_words rest) ≡ []
silent cap pseudo done [] fit can = refl
silent cap pseudo done (r ∷ rest) fit can =
    let m = map_of_records done in
    ap (λ told. told_by_one cap pseudo m told ++ text_by_one cap pseudo (puts_left cap pseudo m (pair_in told)) (map record_words rest)) (told_again r can.0)
    ∙ ap (λ (e : Effect). put_text r.key e.reply ++ text_by_one cap pseudo (changed e.change r.key m) (map record_words rest)) (put_new cap pseudo m r.key r.value fit.0 fit.1)
    ∙ ap (λ m. text_by_one cap pseudo m (map record_words rest)) (pushed cap pseudo done r fit.0)
    ∙ silent cap pseudo (done ++ r ∷ []) rest fit.2 can.1

map-append : (f : Record → List ℕ) (xs ys : List Record) → map f (xs ++ ys) ≡ map f xs ++ map f ys
map-append f [] ys = refl
map-append f (x ∷ xs) ys = ap (λ l. f x ∷ l) (map-append f xs ys)

page_lines_are : (pages : List Page) → flat_map records_lines pages ≡ map record_words (flat_map records_of pages)
page_lines_are [] = refl
page_lines_are (page ∷ pages) = ap (λ l. records_lines page ++ l) (page_lines_are pages) ∙ sym (map-append record_words (records_of page) (flat_map records_of pages))

ward_lines_are : (wards : List (List Page)) → flat_map (flat_map records_lines) wards ≡ map record_words (flat_map records_of (pages_of wards))
ward_lines_are [] = refl
ward_lines_are (pages ∷ wards) =
    ap₂ (λ a b. a ++ b) (page_lines_are pages) (ward_lines_are wards)
    ∙ sym (ap (map record_words) (flat_map-append records_of pages (pages_of wards)) ∙ map-append record_words (flat_map records_of pages) (flat_map records_of (pages_of wards)))

-- ---- what lines leave

-- of the settings
pub record HasSettings (loading : Loading) (cap ward_bits : ℕ) (keyer : AnyKeyer) : Type 0 where
  pub cap_is : loading.cap ≡ cap
  pub bits_are : loading.ward_bits ≡ ward_bits
  pub keyer_is : loading.keyer ≡ keyer

settings_kept : (cap ward_bits : ℕ) (keyer : AnyKeyer) (line : List ℕ) (loading : Loading) → HasSettings loading cap ward_bits keyer → HasSettings (after_pair_line loading line) cap ward_bits keyer
unfolding after_pair_line
settings_kept cap ward_bits keyer line loading has = read (pair_told line)
  where
    read : (told : Result (List ℕ × List ℕ) LineFault) → HasSettings (after_read_pair loading told) cap ward_bits keyer
    read (Ok pair) = record { cap_is = has.cap_is; bits_are = has.bits_are; keyer_is = has.keyer_is }
    read (Err fault) = has

settings_left : (cap ward_bits : ℕ) (keyer : AnyKeyer) (lines : Lines) (loading : Loading) → HasSettings loading cap ward_bits keyer → HasSettings (loaded_from loading lines) cap ward_bits keyer
settings_left cap ward_bits keyer [] loading has = has
settings_left cap ward_bits keyer (line ∷ lines) loading has = settings_left cap ward_bits keyer lines (after_pair_line loading line) (settings_kept cap ward_bits keyer line loading has)

-- a new file has no record
abbrev no_map : KeyMap
no_map = fin.empty

no_records : (wards : ℕ) → sum_by fin.len (replicate wards no_map) ≡ 0
no_records wards = let none : fin.len no_map ≡ 0 = fin.len-empty (slice_cmp nat_cmp) (List ℕ) in sum_by-replicate fin.len wards no_map ∙ rw none (omega arith)

-- ---- the whole text

pub loads_again : LoadsAreOneMaps → NewMapsAreNone → LegalBytesAreFiles → (other : OtherSettings) → PairsLoadAgain other
loads_again one_maps new_maps are_files other file bytes legal all range same_keyer lesser =
    let settings = settings_over other file.header.settings in
    let records = flat_map records_of (pages_of file.wards) in
    let lines = map record_words records in
    let known = are_files file bytes legal in
    let can = file_tellable file known.is_known (pages_are_bytes file bytes legal all) in
    let good = file_good file settings.cap known lesser in
    let fit = all_fit settings.cap (any_pseudokey file.header.settings.keyer) (pages_of file.wards) good.legal good.short good.homes in
    let fits = subst (λ keyer. AllFit settings.cap (any_pseudokey keyer) [] records) (sym same_keyer) fit in
    let start = empty_loading settings.cap settings.ward_bits settings.keyer in
    let one = one_maps start fin.empty lines range.bits (new_maps settings.cap settings.ward_bits settings.keyer) in
    let left = loaded_from start lines in
    let has = settings_left settings.cap settings.ward_bits settings.keyer lines start (record { cap_is = refl; bits_are = refl; keyer_is = refl }) in
    let text : pairs_lines other file ≡ first_words settings ∷ lines = ap (λ l. first_words settings ∷ l) (ward_lines_are file.wards) in
    let read : lines_of (lines_text (pairs_lines other file)) ≡ first_words settings ∷ lines =
    ap (λ l. lines_of (lines_text l)) text ∙ lines_again (first_words settings ∷ lines) (text_lines settings records range can) in
    let quiet : load_text_from start lines ≡ [] = one.text ∙ silent settings.cap (any_pseudokey settings.keyer) [] records fits can in
    let more : record_count left - record_count start ≡ record_count left = omega (arith, no_records (2 ^ settings.ward_bits)) in
    let map_is = ap (puts_left settings.cap (any_pseudokey settings.keyer) fin.empty) (told_pairs records can) ∙ puts_fit settings.cap (any_pseudokey settings.keyer) [] records fits in
    record {
      loading = left;
      loads = ap (load_of_lines at_end new_file) read ∙ ap (λ told. load_after at_end new_file told lines) (first_again settings range)
          ∙ ap (λ text. record { printed = text ++ number_line (codes "loaded ") (record_count left - record_count start); left = Some left }) quiet
          ∙ ap (λ count. record { printed = number_line (codes "loaded ") count; left = Some left }) more;
      cap = has.cap_is;
      ward_bits = has.bits_are;
      keyer = has.keyer_is;
      map = subst (λ whole. AreParts settings.ward_bits (any_pseudokey settings.keyer) whole left.maps) map_is one.maps;
    }

pub tells_again : ((other : OtherSettings) → PairsLoadAgain other) → (topic : Topic) → TellsAgain topic
tells_again again Size = tt
tells_again again Content = tt
tells_again again (Pairs other) = again other
