-- 01, "How far each contract reaches": the four empty programs, and a made-up settled count. Each is held against the contract itself, a function's clauses as the checker has them, on a small input, and refuted.
use Prim.Native.Nat.{ℕ}
use mathlib.Core.Path.{◌≡◌, refl, sym, ap, ◌∙◌}
use mathlib.Core.List.{List, [], ◌∷◌}
use native.Mathlib.Omega.{arith}
use seplogic.Ra.Ura.{Ura}
use base.Logic.{SProp, ent, id⊢}
use prog.Memory.{Memory}
use prog.Routine.{Routine}
use types.Logic.{Logic}
use contract.Lifetimes.{Lfts}
use contract.Monad.{Fun, conj, fact, fact_i, fact_use}
use denote.Triple.Entry.{Args}
use denote.Triple.Clauses.{AtExit}
use lib.ListN.{length, get_or}
use borrow.Author.Tests.{le-leb}
use Rattle.std.specs.Prelude.{Ok, Err}
use Rattle.terms.proofs.OneAnswer.{both}
use Rattle.terms.specs.Terms.{ascii}
use Rattle.answers.specs.declared.Refusal.{Refusal}
use Rattle.answers.specs.Caps.{accepted}
use Rattle.listing.specs.declared.Listing.{Listing}
use Rattle.listing.specs.Listings.{Listed, listed}
use Rattle.listing.specs.contracts.list as list
use Rattle.clerk.specs.declared.Sorted.{Sorted}
use Rattle.clerk.specs.Sorted.{answer, sorted}
use Rattle.clerk.specs.contracts.toposort as toposort
use Rattle.review.proofs.Paper.{answered}

-- three small texts, listed
none : (t : List ℕ) → listed Listing.Raw [] 0 t ≡ (Ok 0, t)
unfolding answered
none t = rw (le-leb 0 (length t) (omega arith))

mark : listed Listing.Raw (ascii ";") 0 (0 ∷ 0 ∷ 0 ∷ []) ≡ (Ok 1, 6 ∷ 0 ∷ 1 ∷ [])
unfolding answered
mark = refl

marks : listed Listing.Raw (ascii ";;") 0 (0 ∷ 0 ∷ 0 ∷ 0 ∷ 0 ∷ 0 ∷ []) ≡ (Ok 2, 6 ∷ 0 ∷ 1 ∷ 6 ∷ 1 ∷ 2 ∷ [])
unfolding answered
marks = refl

-- three small sheets, sorted: of no items; of three that need nothing; of three, of which the first needs the second
abbrev pub unneedy : List ℕ
unneedy = 3 ∷ 0 ∷ 5 ∷ 17 ∷ 17 ∷ 0 ∷ 1 ∷ 0 ∷ 0 ∷ 1 ∷ 1 ∷ 0 ∷ 0 ∷ 2 ∷ 1 ∷ 0 ∷ 0 ∷ []

abbrev pub needy : List ℕ
needy = 3 ∷ 1 ∷ 5 ∷ 17 ∷ 21 ∷ 0 ∷ 1 ∷ 0 ∷ 1 ∷ 1 ∷ 1 ∷ 1 ∷ 0 ∷ 2 ∷ 1 ∷ 1 ∷ 0 ∷ 1 ∷ 1 ∷ 0 ∷ 0 ∷ []

no_items : (t : List ℕ) → sorted (0 ∷ 0 ∷ 5 ∷ 5 ∷ 5 ∷ []) [] t ≡ (answer accepted 0, t)
unfolding answered
no_items t = rw (le-leb 0 (length t) (omega arith))

three : sorted unneedy (ascii "abc") (9 ∷ 9 ∷ 9 ∷ []) ≡ (answer accepted 0, 0 ∷ 1 ∷ 2 ∷ [])
unfolding answered
three = refl

first_needs : sorted needy (ascii "abc") (9 ∷ 9 ∷ 9 ∷ []) ≡ (answer accepted 1, 1 ∷ 0 ∷ 2 ∷ [])
unfolding answered
first_needs = refl

module _ {M : Type 1} {𝓤 : Ura M} (𝓛 : Logic 𝓤) (mem : Memory → SProp 𝓤) (run : Routine → Fun 𝓤) where
  -- what follows from a contract
  leaves : {φ ψ : Type 0} → (φ → ψ) → ent 𝓤 (fact 𝓤 φ) (fact 𝓤 ψ)
  leaves {φ} {ψ} f = fact_use 𝓤 φ (id⊢ 𝓤 (fact 𝓤 φ)) (λ e. fact_i 𝓤 ψ (fact 𝓤 φ) (f e))

  -- THE LISTING
  module _ (κs : Lfts (list.ended).signature.lifetimes) where
    abbrev Asked : Type 0
    Asked = Args (list.ended).signature κs

    abbrev Left : Type 0
    Left = AtExit list.ended κs

    abbrev allows : (a : Asked) → (list.clauses 𝓛 mem run κs a).ghost → Listed → Left → SProp 𝓤
    allows a g r e = (list.clauses 𝓛 mem run κs a).ensures g r e

    -- a raw listing of this text at offset 0 into this table
    pub record Of (text table : List ℕ) (a : Asked) : Type 0 where
      pub text_is : a.0.now ≡ text
      pub offset_is : a.1.0 ≡ 0
      pub raw_is : a.1.1.0 ≡ Listing.Raw
      pub table_is : a.1.1.1.0.now ≡ table

    -- what it then leaves
    gives : (text table : List ℕ) (a : Asked) → Of text table a → listed a.1.1.0 a.0.now a.1.0 a.1.1.1.0.now ≡ listed Listing.Raw text 0 table
    gives text table a o = rw (o.text_is, o.offset_is, o.raw_is, o.table_is)

    refused_count_lem : (f : Refusal) (n : ℕ) → ◌≡◌ {A = Listed} (Err f) (Ok n) → ⊥
    refused_count_lem f n e = let z : ◌≡◌ {A = ℕ} 0 1 = cc in omega arith

    -- 1. One that refuses everything: no text is accepted.
    pub refuses_everything : (table : List ℕ) (a : Asked) → Of [] table a → (g : (list.clauses 𝓛 mem run κs a).ghost) (f : Refusal) (e : Left)
        → ent 𝓤 (allows a g (Err f) e) (fact 𝓤 ⊥)
    refuses_everything table a o g f e = leaves (λ c. refused_count_lem f 0 (ap (λ (x : Listed × List ℕ). x.0) (c ∙ gives [] table a o ∙ none table)))

    -- 2. One with a fixed listing: the same is answered and left for two texts.
    pub fixed_listing : (a b : Asked) → Of [] (0 ∷ 0 ∷ 0 ∷ []) a → Of (ascii ";") (0 ∷ 0 ∷ 0 ∷ []) b
        → (g : (list.clauses 𝓛 mem run κs a).ghost) (h : (list.clauses 𝓛 mem run κs b).ghost) (r : Listed) (e : Left)
        → ent 𝓤 (conj 𝓤 (allows a g r e) (allows b h r e)) (fact 𝓤 ⊥)
    fixed_listing a b o q g h r e =
        both 𝓤 (λ c d.
        let zero_one : ◌≡◌ {A = Listed} (Ok 0) (Ok 1) = ap (λ (x : Listed × List ℕ). x.0) (sym (c ∙ gives [] (0 ∷ 0 ∷ 0 ∷ []) a o ∙ none (0 ∷ 0 ∷ 0 ∷ [])) ∙ d ∙ gives (ascii ";") (0 ∷ 0 ∷ 0 ∷ []) b q ∙ mark) in
        let z : ◌≡◌ {A = ℕ} 0 1 = cc in omega arith)

    -- 3. One that writes nothing: the row's words are named.
    pub writes_nothing : (a : Asked) → Of (ascii ";") (0 ∷ 0 ∷ 0 ∷ []) a → (g : (list.clauses 𝓛 mem run κs a).ghost) (r : Listed) (e : Left)
        → e.1.1.1.0.now ≡ 0 ∷ 0 ∷ 0 ∷ [] → ent 𝓤 (allows a g r e) (fact 𝓤 ⊥)
    writes_nothing a o g r e same =
        leaves (λ c.
        let word : ◌≡◌ {A = ℕ} 0 6 = ap (λ (x : List ℕ). get_or x 0 0) (sym same) ∙ ap (λ (x : Listed × List ℕ). get_or x.1 0 0) (c ∙ gives (ascii ";") (0 ∷ 0 ∷ 0 ∷ []) a o ∙ mark) in
        omega arith)

    -- 4. One that reads the first token and pads the rest: the second row's words are named too.
    pub pads_the_rest : (a : Asked) → Of (ascii ";;") (0 ∷ 0 ∷ 0 ∷ 0 ∷ 0 ∷ 0 ∷ []) a → (g : (list.clauses 𝓛 mem run κs a).ghost) (r : Listed) (e : Left) (x y z : ℕ)
        → e.1.1.1.0.now ≡ 6 ∷ 0 ∷ 1 ∷ x ∷ y ∷ z ∷ [] → ent 𝓤 (allows a g r e) (fact 𝓤 ((x ≡ 6) × (y ≡ 1) × (z ≡ 2)))
    pads_the_rest a o g r e x y z padded =
        leaves (λ c.
        let left : 6 ∷ 0 ∷ 1 ∷ x ∷ y ∷ z ∷ [] ≡ 6 ∷ 0 ∷ 1 ∷ 6 ∷ 1 ∷ 2 ∷ [] = sym padded ∙ ap (λ (w : Listed × List ℕ). w.1) (c ∙ gives (ascii ";;") (0 ∷ 0 ∷ 0 ∷ 0 ∷ 0 ∷ 0 ∷ []) a o ∙ marks) in
        (ap (λ (w : List ℕ). get_or w 3 0) left, ap (λ (w : List ℕ). get_or w 4 0) left, ap (λ (w : List ℕ). get_or w 5 0) left))

  -- THE ORDER
  module _ (κs : Lfts (toposort.ended).signature.lifetimes) where
    abbrev AskedSort : Type 0
    AskedSort = Args (toposort.ended).signature κs

    abbrev LeftSort : Type 0
    LeftSort = AtExit toposort.ended κs

    abbrev allows_sort : (a : AskedSort) → (toposort.clauses 𝓛 mem run κs a).ghost → Sorted → LeftSort → SProp 𝓤
    allows_sort a g r e = (toposort.clauses 𝓛 mem run κs a).ensures g r e

    -- an order of this sheet with these names into this slice
    pub record Sort (sheet names slice : List ℕ) (a : AskedSort) : Type 0 where
      pub sheet_is : a.0.now ≡ sheet
      pub names_are : a.1.0.now ≡ names
      pub slice_is : a.1.1.0.now ≡ slice

    orders : (sheet names slice : List ℕ) (a : AskedSort) → Sort sheet names slice a → sorted a.0.now a.1.0.now a.1.1.0.now ≡ sorted sheet names slice
    orders sheet names slice a o = rw (o.sheet_is, o.names_are, o.slice_is)

    -- 1. One that refuses everything.
    pub refuses_every_sheet : (slice : List ℕ) (a : AskedSort) → Sort (0 ∷ 0 ∷ 5 ∷ 5 ∷ 5 ∷ []) [] slice a → (g : (toposort.clauses 𝓛 mem run κs a).ghost) (f : Refusal) (n : ℕ) (e : LeftSort)
        → ent 𝓤 (allows_sort a g (answer (Err f) n) e) (fact 𝓤 ⊥)
    refuses_every_sheet slice a o g f n e =
        leaves (λ c.
        let same : Err f ≡ accepted = ap (λ (x : Sorted × List ℕ). x.0.verdict) (c ∙ orders (0 ∷ 0 ∷ 5 ∷ 5 ∷ 5 ∷ []) [] slice a o ∙ no_items slice) in
        let z : ◌≡◌ {A = ℕ} 0 1 = cc in omega arith)

    -- 2. One with a fixed order.
    pub fixed_order : (a b : AskedSort) → Sort unneedy (ascii "abc") (9 ∷ 9 ∷ 9 ∷ []) a → Sort needy (ascii "abc") (9 ∷ 9 ∷ 9 ∷ []) b
        → (g : (toposort.clauses 𝓛 mem run κs a).ghost) (h : (toposort.clauses 𝓛 mem run κs b).ghost) (r : Sorted) (e : LeftSort)
        → ent 𝓤 (conj 𝓤 (allows_sort a g r e) (allows_sort b h r e)) (fact 𝓤 ⊥)
    fixed_order a b o q g h r e =
        both 𝓤 (λ c d.
        let word : ◌≡◌ {A = ℕ} 0 1 = ap (λ (x : Sorted × List ℕ). get_or x.1 0 0) (sym (c ∙ orders unneedy (ascii "abc") (9 ∷ 9 ∷ 9 ∷ []) a o ∙ three) ∙ d ∙ orders needy (ascii "abc") (9 ∷ 9 ∷ 9 ∷ []) b q ∙ first_needs) in
        omega arith)

    -- 3. One that writes nothing.
    pub writes_no_order : (a : AskedSort) → Sort needy (ascii "abc") (9 ∷ 9 ∷ 9 ∷ []) a → (g : (toposort.clauses 𝓛 mem run κs a).ghost) (r : Sorted) (e : LeftSort)
        → e.1.1.0.now ≡ 9 ∷ 9 ∷ 9 ∷ [] → ent 𝓤 (allows_sort a g r e) (fact 𝓤 ⊥)
    writes_no_order a o g r e same =
        leaves (λ c.
        let word : ◌≡◌ {A = ℕ} 9 1 = ap (λ (x : List ℕ). get_or x 0 0) (sym same) ∙ ap (λ (x : Sorted × List ℕ). get_or x.1 0 0) (c ∙ orders needy (ascii "abc") (9 ∷ 9 ∷ 9 ∷ []) a o ∙ first_needs) in
        omega arith)

    -- A made-up settled count: it is that of the targets placed.
    pub made_up_count : (a : AskedSort) → Sort needy (ascii "abc") (9 ∷ 9 ∷ 9 ∷ []) a → (g : (toposort.clauses 𝓛 mem run κs a).ghost) (r : Sorted) (e : LeftSort)
        → ent 𝓤 (allows_sort a g r e) (fact 𝓤 (r.settled ≡ 1))
    made_up_count a o g r e = leaves (λ c. ap (λ (x : Sorted × List ℕ). x.0.settled) (c ∙ orders needy (ascii "abc") (9 ∷ 9 ∷ 9 ∷ []) a o ∙ first_needs))
