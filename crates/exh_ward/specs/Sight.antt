-- What a call meets at a page.
use Rattle.std.specs.Prelude.{◌≡◌, ℕ, ◌<◌, ◌≤◌, nat_le, Bool, List, length, Option, None}
use Rattle.exh_prefix.specs.Prefix.{Begins}
use Rattle.exh_page.specs.declared.page.Page.{Page}
use Rattle.exh_page.specs.declared.page.Page.TheVariants.{Live}
use Rattle.exh_page.specs.declared.record.Record.{Record}
use Rattle.exh_page.specs.declared.spot.Spot.{Spot}
use Rattle.exh_page.specs.Page.{low_bound, records_of}
use Rattle.exh_page.specs.Records.{value_at}
use Rattle.exh_page.specs.Search.{IsStood}
use Rattle.exh_calls.specs.Call.{key_of}
use Rattle.exh_calls.specs.Effect.{Change, effect_of}
use Rattle.exh_ward.specs.HopTable.{IsReached, LeadsTo}
use Rattle.exh_ward.specs.PageAnswer.{OverflowsPage}
use Rattle.exh_legal.specs.Pages.{IsAt, IsHome}
use Rattle.exh_calls.specs.declared.call.Call.{Call}
use Rattle.exh_calls.specs.declared.reply.Reply.{Reply}
use Rattle.exh_ward.specs.declared.ward.hop.home_sight.HomeSight.{HomeSight}
use Rattle.exh_ward.specs.declared.ward.hop.sight.Sight.{Sight}
use Rattle.exh_ward.specs.declared.ward.hop.sight.Sight.TheVariants.{Beyond, Leads, NoWay, Overflows, Home}

-- a live page that isn't the pseudokey's home, and has no right link
abbrev pub IsDeadEnd : Page → ℕ → Type 0
IsDeadEnd page pseudokey = (prefix : List Bool) × (records : List Record) × (page ≡ Live prefix None records) × (Begins prefix pseudokey → ⊥)

-- what the home page has for the call
pub record IsSeenAt (cap pseudokey : ℕ) (page : Page) (call : Call) (home : HomeSight) : Type 0 where
  pub full : home.full ≡ nat_le cap (length (records_of page))
  pub spot : IsStood (pseudokey, key_of call) (records_of page) home.spot
  pub stood : home.stood ≡ value_at (pseudokey, key_of call) (records_of page)

abbrev pub SightOf : ℕ → ℕ → Page → Call → Sight → Type 0
SightOf cap pseudokey page call Beyond = pseudokey < low_bound page
SightOf cap pseudokey page call (Leads next) = (low_bound page ≤ pseudokey) × LeadsTo page pseudokey next
SightOf cap pseudokey page call NoWay = (low_bound page ≤ pseudokey) × IsDeadEnd page pseudokey
SightOf cap pseudokey page call Overflows = (low_bound page ≤ pseudokey) × IsHome page pseudokey × OverflowsPage cap pseudokey page call
SightOf cap pseudokey page call (Home home) = (low_bound page ≤ pseudokey) × IsHome page pseudokey × (OverflowsPage cap pseudokey page call → ⊥) × IsSeenAt cap pseudokey page call home

-- of a page number
abbrev pub SightIn : ℕ → ℕ → List Page → ℕ → Call → Sight → Type 0
SightIn cap pseudokey pages at call Beyond = (page : Page) → IsReached pages at pseudokey page → ⊥
SightIn cap pseudokey pages at call sight = (page : Page) × IsAt pages at page × SightOf cap pseudokey page call sight

-- what a hop does at the call's home: the change where the key's record stands, and the reply
pub record IsAnswerOf (cap pseudokey : ℕ) (pages : List Page) (at : ℕ) (call : Call) (spot : Option Spot) (change : Change) (reply : Reply) : Type 0 where
  pub home : HomeSight
  pub seen : SightIn cap pseudokey pages at call (Home home)
  pub spot_is : home.spot ≡ spot
  pub change_is : change ≡ (effect_of call home.full home.stood).change
  pub reply_is : reply ≡ (effect_of call home.full home.stood).reply
