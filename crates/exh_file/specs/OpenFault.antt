-- Faults of opening a page file, and their numbers among all refusals.
use Rattle.std.specs.Prelude.{◌≡◌, ⊤, ℕ, ◌<◌, List, slice_get, Option, None, Some, Result, IfErr}
use Rattle.exh_page.specs.declared.page.Page.{Page as PageType}
use Rattle.exh_format.specs.LegalFile.{IsOtherFault}
use Rattle.exh_format.specs.declared.legal_file_fault.LegalFileFault.TheVariants.{Memory}
use Rattle.exh_format.specs.LegalFileFault.{fault_place, fault_reason, legal_file_fault_number}
use Rattle.exh_ward.specs.declared.ward_fault.WardFault.{WardFault}
use Rattle.exh_ward.specs.declared.ward_fault.WardFault.TheVariants.{Page as OutOfReach}
use Rattle.exh_file.specs.declared.open_fault.OpenFault.{OpenFault}
use Rattle.exh_file.specs.declared.open_fault.OpenFault.TheVariants.{File, Page}

abbrev pub open_fault_number : OpenFault → ℕ
open_fault_number (File fault) = legal_file_fault_number fault
open_fault_number Page = 11

abbrev pub open_fault_place : OpenFault → Option ℕ
open_fault_place (File fault) = fault_place fault
open_fault_place Page = None

abbrev pub open_fault_reason : OpenFault → Option ℕ
open_fault_reason (File fault) = fault_reason fault
open_fault_reason Page = None

-- the fault that a ward's refusal to be made of pages becomes
abbrev pub open_fault_of : WardFault → OpenFault
open_fault_of OutOfReach = Page
open_fault_of fault = File Memory

-- a store of these pages counted one failure more
abbrev pub HasCounted : {P : Type 0} → (P → List PageType) → (P → ℕ) → List PageType → Type 0
HasCounted {P} pages_of failures pages = (store left : P) × (pages_of store ≡ pages) × (failures store < failures left)

-- so did a store of the pages of one of these wards
abbrev pub HasCountedOne : {P : Type 0} → (P → List PageType) → (P → ℕ) → List (List PageType) → Type 0
HasCountedOne {P} pages_of failures wards = (number : ℕ) × (own : List PageType) × (slice_get wards number ≡ Some own) × HasCounted {P = P} pages_of failures own

-- a page that is out of reach is told only there
abbrev pub IsCounted : {P T : Type 0} → (P → List PageType) → (P → ℕ) → List (List PageType) → Result T OpenFault → Type 0
IsCounted {P} pages_of failures wards result = IfErr result (λ fault. fault ≡ Page → HasCountedOne {P = P} pages_of failures wards)

-- the fault isn't one of the bytes
abbrev pub IsOtherOpening : OpenFault → Type 0
IsOtherOpening (File fault) = IsOtherFault fault
IsOtherOpening Page = ⊤
