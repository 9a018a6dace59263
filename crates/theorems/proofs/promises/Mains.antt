-- With all nodes in the set the planner is the plain one; a list posted with a set adds no row that does not keep to it.
use mathlib.Core.Path.{◌≡◌, refl, sym, subst}
use mathlib.Core.Logic.{inl, inr, ⊎_elim}
use mathlib.Core.Bool.{true}
use mathlib.Core.List.{List, [], ◌∷◌}
use Prim.Native.Nat.{ℕ}
use native.Mathlib.Decide.{ℕ_discrete}
use Rattle.rules.specs.Words.{NoBitFrom, ◌∈◌}
use Rattle.rules.specs.Topology.{Topology, nodes, KeepsTo, all_nodes, PathBetween, PathWithin, Best}
use Rattle.rules.specs.Book.{Site, Book}
use Rattle.rules.specs.Placing.{Asked, Planned}
use Rattle.rules.specs.Placing.Planned.{one, two}
use Rattle.rules.specs.Image.{Stored}
use Rattle.rules.specs.Calls.{Request, Made, Work, InOrder, Post, BookKeepsTo, Keeps}
use Rattle.rules.specs.Calls.Request.{Open, Close}
use Rattle.rules.specs.Order.{IdInRange, current, Posting}
use Rattle.rules.proofs.Lists.{reordered_in, reordered_back, in_append, in_right}
use Rattle.rules.proofs.Listing.{exactly_same}
use Rattle.rules.proofs.Middles.{all_keep}
use Rattle.rules.proofs.Added.{new_route}
use Rattle.rules.proofs.Lawful.{in_order_site}
use Rattle.rules.proofs.Tests.{said_yes}
use Rattle.theorems.proofs.order.Calls.{ran, low_said, current_kept}
use Rattle.theorems.specs.promises.Mains.{PlainBetween, PlainWithin, Plain, AllNodesArePlain, ByPosts, PostsKeepTheSet}

-- THE PLAIN PLANNER

-- the best of what is true alike, and the first of it
best_same : {P Q : List ℕ → Type 0} {p : List ℕ} → ((q : List ℕ) → P q → Q q) → ((q : List ℕ) → Q q → P q) → Best P p → Best Q p
best_same {p = p} f g b = record { is = f p b.is; shortest = λ q w. b.shortest q (g q w); first = λ q w. b.first q (g q w) }

module _ (T : Topology) (source destination : ℕ) where
  abbrev all : ℕ
  all = all_nodes (nodes T)

  plain : (p : List ℕ) → PathBetween T all source destination p → PlainBetween T source destination p
  plain p w = record { path = w.path; starts = w.starts; ends = w.ends }

  kept : (p : List ℕ) → PlainBetween T source destination p → PathBetween T all source destination p
  kept p w = record { path = w.path; starts = w.starts; ends = w.ends; keeps = all_keep T p w.path }

  plain_within : (n : ℕ) (p : List ℕ) → PathWithin n T all source destination p → PlainWithin n T source destination p
  plain_within n p w = (plain p w.between, w.most)

  kept_within : (n : ℕ) (p : List ℕ) → PlainWithin n T source destination p → PathWithin n T all source destination p
  kept_within n p w = record { between = kept p w.0; most = w.1 }

  all_plain : Plain T source destination
  all_plain = record {
    route = λ p. (best_same (plain_within _) (kept_within _), best_same (kept_within _) (plain_within _));
    none = (λ f p w. f p (kept p w), λ f p w. f p (plain p w));
    far = (
      λ t. ((t.some.0, plain t.some.0 t.some.1), λ p w. t.over p (kept p w)),
      λ t. record { some = (t.0.0, kept t.0.0 t.0.1); over = λ p w. t.1 p (plain p w) },
    );
    listed = λ routes more. (
      λ l. record { every = l.every; exactly = exactly_same (plain_within _) (kept_within _) l.exactly; first = l.first; more_is = l.more_is },
      λ l. record { every = l.every; exactly = exactly_same (kept_within _) (plain_within _) l.exactly; first = l.first; more_is = l.more_is },
    );
    second = λ first p. (best_same (λ q w. (plain q w.0, w.1)) (λ q w. (kept q w.0, w.1)), best_same (λ q w. (kept q w.0, w.1)) (λ q w. (plain q w.0, w.1)));
  }

pub all_nodes_are_plain : AllNodesArePlain
all_nodes_are_plain = all_plain

-- BOOKS MADE WITH ONE SET
planned_keep : (T : Topology) (mains : ℕ) (q : Asked) (ps : List (List ℕ)) → Planned T mains q ps → (p : List ℕ) → p ∈ ps → KeepsTo mains p
planned_keep T mains q ps (one n r) p (inl e) = subst (KeepsTo mains) (sym e) r.is.between.keeps
planned_keep T mains q ps (one n r) p (inr m) = absurd m
planned_keep T mains q ps (two y r s) p (inl e) = subst (KeepsTo mains) (sym e) r.is.between.keeps
planned_keep T mains q ps (two y r s) p (inr (inl e)) = subst (KeepsTo mains) (sym e) s.is.0.keeps
planned_keep T mains q ps (two y r s) p (inr (inr m)) = absurd m

module _ (mains : ℕ) where
  made_keeps : (b : Book) (q : Request) (c : Book) → Made mains b q c → BookKeepsTo mains b → BookKeepsTo mains c
  made_keeps b (Open q) c g k r m = ⊎_elim new (λ (i : r ∈ b.rows). k r i) (in_append r g.new b.rows (reordered_in r g.plus.rows m))
    where
      new : r ∈ g.new → KeepsTo mains r.route
      new i =
          let t = new_route q b 1 g.routes g.new g.placed r i in
          subst (KeepsTo mains) (sym t.new.on) (planned_keep b.site.links mains q g.routes g.planned t.route t.given)
  made_keeps b (Close id) c g k r m = k r (reordered_back r g.plus.rows (in_right r g.gone c.rows m))

  work_keeps : (b : Book) (q : Request) (n : ℕ) (c : Book) → Work mains b q n c → BookKeepsTo mains b → BookKeepsTo mains c
  work_keeps b q n c w k = go (ℕ_discrete n 0)
    where
      go : Dec (n ≡ 0) → BookKeepsTo mains c
      go (yes z) = made_keeps b q c (w.done z) k
      go (no f) = subst (BookKeepsTo mains) (sym (w.refused f)) k

  works_keep : (b : Book) (qs : List Request) (ns : List ℕ) (c : Book) → InOrder (Work mains) b qs ns c → BookKeepsTo mains b → BookKeepsTo mains c
  works_keep b [] [] c w k = subst (BookKeepsTo mains) (sym w) k
  works_keep b [] (n ∷ ns) c w k = absurd w
  works_keep b (q ∷ qs) [] c w k = absurd w
  works_keep b (q ∷ qs) (n ∷ ns) c (d, step, rest) k = works_keep d qs ns c rest (work_keeps b q n d step k)

  -- what the call said yes of
  record Kept (image : List ℕ) : Type 0 where
    pub version : ℕ
    pub book : Book
    pub held : Stored image version book
    pub low : NoBitFrom (nodes book.site.links) mains
    pub keeps : BookKeepsTo mains book

  -- it said yes
  kept_of : (image : List ℕ) → Keeps image mains 0 true → Kept image
  kept_of image k =
      let (v, b, s, t) = k.done refl in
      record { version = v; book = b; held = s; low = low_said mains (λ v b. []) s k.says; keeps = t.yes refl }

  -- and so it does
  keeps_said : (image : List ℕ) → Kept image → Keeps image mains 0 true
  keeps_said image k = record {
    says = inr (k.version, k.book, k.held, inr (λ f. f k.low, refl));
    refused = λ f. absurd (f refl);
    done = λ z. (k.version, k.book, k.held, said_yes k.keeps);
  }

  -- one list
  posting_keeps : (image : List ℕ) (qs : List Request) (n : ℕ) (answers last : List ℕ) → ((q : Request) → q ∈ qs → IdInRange q) → Kept image
      → Posting (λ (image index out : List ℕ). Unit {0}) image mains qs n answers last → Kept last
  posting_keeps image qs n answers last small k p = subst Kept (sym p.last_is) (go (ℕ_discrete n 0))
    where
      go : Dec (n ≡ 0) → Kept (current image p.len p.out')
      go (yes z) =
          let r = ran k.held k.low qs small p.index p.out p.before p.len p.index' p.out' answers
          (subst (λ (m : ℕ). Post image mains qs p.index p.out p.before m p.len p.index' p.out' answers) z p.post) in
          record {
            version = r.version;
            book = r.book;
            held = r.holds;
            low = subst (λ (site : Site). NoBitFrom (nodes site.links) mains) (sym (in_order_site mains k.book qs answers r.book r.works)) k.low;
            keeps = works_keep k.book qs answers r.book r.works k.keeps;
          }
      go (no f) = subst Kept (sym (current_kept image p.len p.out' (p.post.refused f).0.length_is)) k

  -- and one after the other
  posts_keep : (image : List ℕ) (lists : List (List Request)) (last : List ℕ) → ((qs : List Request) → qs ∈ lists → (q : Request) → q ∈ qs → IdInRange q) → Kept image
      → ByPosts mains image lists last → Kept last
  posts_keep image [] last small k h = subst Kept (sym h) k
  posts_keep image (qs ∷ lists) last small k (n, answers, between, p, rest) =
      posts_keep between lists last (λ ps m. small ps (inr m)) (posting_keeps image qs n answers between (small qs (inl refl)) k p) rest

pub posts_keep_the_set : PostsKeepTheSet
posts_keep_the_set image mains lists last small k h = keeps_said mains last (posts_keep mains image lists last small (kept_of mains image k) h)
