-- The routes between two nodes: the image's refusal, or what the list says of its book.
use Rattle.std.specs.Prelude.{Result}
use mathlib.Core.Path.{refl}
use mathlib.Core.Bool.{false}
use mathlib.Core.Logic.{inr}
use mathlib.Core.List.{List}
use Prim.Native.Nat.{ℕ}
use lib.ListN.{length}
use Rattle.rules.specs.Image.{version_of}
use Rattle.rules.specs.Calls.{routes_refusals, Routes}
use Rattle.rules.specs.Said.{number_of, said}
use Rattle.rules.specs.declared.refusals.Refusal.{Refusal}
use Rattle.rules.proofs.Reading.{book_in, LawfulImage}
use Rattle.lawful.specs.Verdict.{NumberOf}
use Rattle.routes.specs.declared.choices.Listed.{Listed}
use Rattle.routes.specs.choices.Listing.{listed, more, BookSays}
use Rattle.planner.proofs.Lifts.{image_refused}

pub routes_refused : {s : List ℕ} (r : Refusal) → NumberOf s (number_of r) → (mains source destination : ℕ) (out : List ℕ)
    → Routes s mains source destination out (number_of r) 0 out false
routes_refused r v mains source destination out =
    image_refused r v (routes_refusals mains source destination (length out)) (record { length_is = refl; buffer = refl }, refl)

pub routes_on : {s : List ℕ} → LawfulImage s → (mains source destination : ℕ) (out out' : List ℕ) (r : Result Listed Refusal) → BookSays s mains source destination out r out'
    → Routes s mains source destination out (said r) (listed r) out' (more r)
routes_on {s} h mains source destination out out' r w = record {
  says = inr (version_of s, book_in s, h, w.says);
  refused = w.refused;
  done = λ z. (version_of s, book_in s, h, w.done z);
}
