-- How many words stand at places.
use Rattle.std.proofs.Common.{◌≡◌, ◌<◌, ◌≤◌, List, [], ◌∷◌, length, map, Err, refl, arith}
use Rattle.exh_request.specs.declared.line.Placed.{Placed}
use Rattle.exh_request.specs.declared.options.Options.{Options}
use Rattle.exh_request.specs.declared.place.Place.TheVariants as at
use Rattle.exh_request.specs.declared.wrong_request.WrongCause.TheVariants.{Missing}
use Rattle.exh_request.specs.Line.{placed_word}
use Rattle.exh_request.specs.Request.{put_asked}

pub one_place : (options : Options) (places : List Placed) → 1 ≤ length places → length places < 2 → put_asked options (map placed_word places) ≡ Err (Missing at.Value)
one_place options [] some few = absurd (omega (arith, some))
one_place options (key ∷ []) some few = refl
one_place options (key ∷ value ∷ rest) some few = absurd (omega (arith, few))
