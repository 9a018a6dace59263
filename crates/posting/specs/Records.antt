-- Records of requests: what they ask for, and their answers.
use Rattle.std.specs.Prelude.{◌≡◌, cond, List, map, ℕ}
use Rattle.rules.specs.Words.{Each}
use Rattle.rules.specs.Placing.{Asked}
use Rattle.rules.specs.Calls as calls
use Rattle.rules.specs.Calls.Request.{Open, Close}
use Rattle.posting.specs.declared.Request.{Request}

-- what a record asks for where it opens a stream
abbrev pub asked_by : Request → Asked
asked_by r = record { id = r.id; source = r.source; destination = r.destination; period = r.period; second = r.second; account = r.account }

-- what it asks for
abbrev pub the_request : Request → calls.Request
the_request r = cond r.opens (Open (asked_by r)) (Close r.id)

abbrev pub the_requests : List Request → List calls.Request
the_requests = map the_request

-- the answers of the records
abbrev pub answers : List Request → List ℕ
answers = map (λ (r : Request). r.answer)

-- the record with this answer, and no other field changed
abbrev pub with_answer : Request → ℕ → Request
with_answer r n = record {
  opens = r.opens;
  second = r.second;
  source = r.source;
  destination = r.destination;
  id = r.id;
  period = r.period;
  account = r.account;
  answer = n;
}

-- as many records as before, and no other field of any changed
abbrev pub OnlyMarked : List Request → List Request → Type 0
OnlyMarked = Each (λ (r r' : Request). r' ≡ with_answer r r'.answer)
