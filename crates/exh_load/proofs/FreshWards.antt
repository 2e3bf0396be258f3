-- The wards of a new file, and a directory of no entry for each.
use Rattle.std.proofs.Common.{◌≡◌, ℕ, zero, suc, ◌≤◌, ◌^◌, List, [], ◌∷◌, length, slice_get, map, Some, refl, sym, ap, ◌∙◌, subst}
use Rattle.std.specs.Prelude.{replicate}
use Rattle.std.specs.FinMap as fin
use Rattle.exh_page.specs.KeyMap.{KeyMap}
use Rattle.exh_legal.specs.Pages.{map_of}
use Rattle.exh_prefix.specs.declared.prefix.TheConstants.{WARD_BITS_LIMIT}
use Rattle.exh_keyer.specs.declared.any_keyer.AnyKeyer.{AnyKeyer}
use Rattle.exh_array.specs.Pointers.{DirectoryState}
use Rattle.exh_page.specs.declared.page.TheConstants.{CAP_LIMIT}
use Rattle.exh_page.specs.declared.file_settings.FileSettings.{FileSettings}
use Rattle.exh_ward.specs.NewWardLemmas.{count_of_new, new_ward_at}
use Rattle.exh_ward.specs.NewWards.{new_ward, new_wards}
use Rattle.exh_ward.specs.WardState.{WardState}
use Rattle.exh_file.specs.Opened.{AreWardsOf, in_file}
use Rattle.exh_load.specs.Load.{empty_loading}
use Rattle.exh_load.specs.Loading.{Loading, loading_of}
use Rattle.exh_load.specs.Loader.{AreEach, IsEmptyDirectory, IsEmptyLoader, IsLoading, LoaderState, file_in}

-- a list whose items all come to one
all_one : {A B : Type 0} (f : A → B) (items : List A) (one : B) → ((number : ℕ) (item : A) → slice_get items number ≡ Some item → f item ≡ one) → map f items ≡ replicate (length items) one
all_one f [] one are = refl
all_one f (item ∷ items) one are =
    ap (λ (first : _). first ∷ map f items) (are zero item refl) ∙ ap (λ (rest : List _). one ∷ rest) (all_one f items one (λ number other there. are (suc number) other there))

module _ (settings : FileSettings AnyKeyer) (wards : List (WardState AnyKeyer)) (directories : List DirectoryState) (made : wards ≡ new_wards settings) where
  are : AreEach (λ (number : ℕ) (ward : WardState AnyKeyer). ward ≡ new_ward settings number) (2 ^ settings.ward_bits) wards
  are = subst (AreEach (λ (number : ℕ) (ward : WardState AnyKeyer). ward ≡ new_ward settings number) (2 ^ settings.ward_bits)) (sym made)
      (record { count_is = count_of_new settings; each = λ number ward there. (new_ward_at settings number ward there).1 })

  abbrev pub fresh : LoaderState
  fresh = record { cap = settings.cap; ward_bits = settings.ward_bits; keyer = settings.keyer; wards = wards; directories = directories }

  pub fresh_wards : 1 ≤ settings.cap → settings.cap ≤ CAP_LIMIT → settings.ward_bits ≤ WARD_BITS_LIMIT → AreWardsOf (file_in fresh)
  fresh_wards some most bits = record {
    some = some;
    most = most;
    bits = bits;
    count = are.count_is;
    each = λ number ward there.
        let is = are.each number ward there in
        record {
          cap = ap (λ (w : WardState AnyKeyer). w.cap) is;
          bits = ap (λ (w : WardState AnyKeyer). w.ward_bits) is;
          number_is = ap (λ (w : WardState AnyKeyer). w.number) is;
          keyer = ap (λ (w : WardState AnyKeyer). w.keyer) is;
        };
  }

  pub fresh_empty : IsEmptyLoader settings fresh
  fresh_empty = ap (in_file settings) made

  pub fresh_loading : AreEach (λ (number : ℕ) (directory : DirectoryState). IsEmptyDirectory settings.ward_bits directory) (2 ^ settings.ward_bits) directories → IsLoading fresh
  fresh_loading empty = record {
    count = empty.count_is ∙ sym are.count_is;
    told = λ number ward directory there directory_there.
        let is = are.each number ward there in
        let none = empty.each number directory directory_there in
        record {
          table = none.table ∙ sym (ap (λ (w : WardState AnyKeyer). w.table) is);
          bits = none.bits ∙ sym (ap (λ (w : WardState AnyKeyer). w.ward_bits) is);
        };
  }

  -- no record is there yet
  pub fresh_maps : loading_of fresh ≡ empty_loading settings.cap settings.ward_bits settings.keyer
  fresh_maps =
      let f : WardState AnyKeyer → KeyMap = λ (w : WardState AnyKeyer). map_of w.pages in
      let maps : map f wards ≡ replicate (2 ^ settings.ward_bits) fin.empty =
      all_one f wards fin.empty (λ number ward there. ap f (are.each number ward there)) ∙ ap (λ (n : ℕ). replicate n (let none : KeyMap = fin.empty in none)) are.count_is in
      ap (λ (ms : List KeyMap). let loading : Loading = record { cap = settings.cap; ward_bits = settings.ward_bits; keyer = settings.keyer; maps = ms } in loading) maps
