-- What a reading brings stands behind what was there.
use Rattle.std.proofs.Common.{◌≡◌, ℕ, ◌+◌, ◌≤◌, List, [], ◌++◌, None, Some, Option, Result, Ok, Err, IfOk, OnOk, length, slice_range, take, drop}
use Rattle.std.proofs.Common.{sym, ap, subst, ◌∙◌, append_assoc, append-nil, drop_at, take-append-drop}
use Rattle.std.proofs.lemmas.Slice.{between_from_start}
use lib.Seq.{take-add, take-append-le, take-take}
use Rattle.std.specs.Io.{ReadsAtMost}
use Rattle.std.specs.Io.KnownBytes.{Keeps, Appends, Consumes, ReadConsumes, prepend_known}
use Rattle.streams.specs.Streams.{left_to_give, given, Grows}

pub read_more : (a b : Option (List ℕ)) (front new bs : List ℕ) → Consumes a b bs → new ≡ front ++ bs → Keeps (prepend_known front a) (prepend_known new b)
read_more None b front new bs p e = tt
read_more (Some x) None front new bs p e = absurd p
read_more (Some x) (Some y) front new bs p e = ap (λ l. l ++ y) e ∙ append_assoc front bs y ∙ ap (λ l. front ++ l) (sym p)

pub read_none : (a b : Option (List ℕ)) (front new : List ℕ) → Keeps a b → new ≡ front → Keeps (prepend_known front a) (prepend_known new b)
read_none None b front new p e = tt
read_none (Some x) None front new p e = absurd p
read_none (Some x) (Some y) front new p e = ap (λ l. l ++ y) e ∙ ap (λ l. front ++ l) p

-- what was read into the part stands after the front
pub consumes_in_place : {E : Type 0} (a b : Option (List ℕ)) (r : Result ℕ E) (front part rest : List ℕ) (at : ℕ) → length front ≡ at → ReadsAtMost r part
    → ReadConsumes a b r part → IfOk r (λ n. Consumes a b (take n (drop at (front ++ (part ++ rest)))))
consumes_in_place a b (Ok n) front part rest at long fits read =
    subst (Consumes a b) (sym (ap (take n) (drop_at front (part ++ rest) at long) ∙ take-append-le n part rest fits.0)) read.0
consumes_in_place a b (Err e) front part rest at long fits read = tt

-- and so nothing is lost, and nothing comes from elsewhere
pub behind : {E : Type 0} (a b : Option (List ℕ)) (r : Result ℕ E) (old new : List ℕ) (at : ℕ) → take at new ≡ take at old
    → IfOk r (λ n. Consumes a b (take n (drop at new))) → IfOk r (λ n. Keeps (left_to_give old 0 at a) (left_to_give new 0 (at + n) b))
behind a b (Ok n) old new at front read = read_more a b (slice_range old 0 at) _ (take n (drop at new)) read
    (between_from_start new (at + n) ∙ take-add at n new ∙ ap (λ l. l ++ take n (drop at new)) (front ∙ sym (between_from_start old at)))
behind a b (Err e) old new at front read = tt

-- what a writer takes behind all that was held stands behind it
pub passed_on : {T E : Type 0} (a y z : Option (List ℕ)) (buffer bytes : List ℕ) (held : ℕ) (r : Result T E) → held ≡ 0 → Keeps a (given buffer held y)
    → OnOk r (Appends y z bytes) → OnOk r (Appends a (given buffer held z) bytes)
passed_on None y z buffer bytes held (Ok u) p k q = tt
passed_on (Some x) None z buffer bytes held (Ok u) p k q = absurd k
passed_on (Some x) (Some y) None buffer bytes held (Ok u) p k q = absurd q
passed_on (Some x) (Some y) (Some z) buffer bytes held (Ok u) p k q =
    let none : take held buffer ≡ [] = ap (λ n. take n buffer) p in
    ap (λ l. z ++ l) none ∙ append-nil z ∙ q ∙ ap (λ l. l ++ bytes) (sym (append-nil y) ∙ ap (λ l. y ++ l) (sym none) ∙ k)
passed_on a y z buffer bytes held (Err e) p k q = tt

-- what is given behind a step that keeps all follows all
pub appends_then : (a b c : Option (List ℕ)) (bytes : List ℕ) → Keeps a b → Appends b c bytes → Appends a c bytes
appends_then None b c bytes p q = tt
appends_then (Some x) None c bytes p q = absurd p
appends_then (Some x) (Some y) None bytes p q = absurd q
appends_then (Some x) (Some y) (Some z) bytes p q = q ∙ ap (λ l. l ++ bytes) p

-- what was given before a place stays, where the buffer does up to there
pub grows_behind : (a c : Option (List ℕ)) (old new : List ℕ) (at held : ℕ) → at ≤ held → Keeps a (given old at c) → take at new ≡ take at old
    → Grows a (given new held c)
grows_behind None c old new at held l k e = ([], tt)
grows_behind (Some x) None old new at held l k e = absurd k
grows_behind (Some x) (Some c) old new at held l k e =
    let rest = drop at (take held new) in
    let front : take at (take held new) ≡ take at old = take-take at held new l ∙ e in
    (rest, ap (λ z. c ++ z) (sym (take-append-drop at (take held new)) ∙ ap (λ z. z ++ rest) front) ∙ sym (append_assoc c (take at old) rest) ∙ ap (λ z. z ++ rest) k)

pub grows_then : (a b c : Option (List ℕ)) → Grows a b → Grows b c → Grows a c
grows_then None b c p q = ([], tt)
grows_then (Some x) None c p q = absurd p.1
grows_then (Some x) (Some y) None p q = absurd q.1
grows_then (Some x) (Some y) (Some z) p q = (p.0 ++ q.0, q.1 ∙ ap (λ l. l ++ q.0) p.1 ∙ append_assoc x p.0 q.0)
