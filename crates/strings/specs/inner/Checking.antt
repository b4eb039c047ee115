-- The check of the gathered bytes as they come, by what is known of those so far. `checked` (proofs/CheckingLaws.antt) ties it to `judged`.
use Rattle.std.specs.Prelude.{ℕ, ◌+◌, ◌-◌, ◌≤◌, ◌<◌, ◌≡◌, true, List, [], ◌∷◌, eqb, if◌then◌else◌}
use Rattle.terms.specs.Terms.{within}
use Rattle.chars.specs.Utf8.{lead_of, is_scalar}
use Rattle.chars.specs.declared.Lead.{Lead}
use Rattle.chars.specs.declared.Lead.TheVariants.{Alone, Two, Three, Four, Never}
use Rattle.strings.specs.declared.Rest.{Rest}
use Rattle.strings.specs.declared.Seen.{Seen}
use Rattle.strings.specs.declared.Seen.TheVariants.{Well, Part, Ill}
use Rattle.strings.specs.declared.More.{More}
use Rattle.strings.specs.declared.More.TheVariants.{One, Whole}
use Rattle.strings.specs.Strings.{Judged, whole, ill_at}

-- A sequence in progress.
abbrev pub part : ℕ → ℕ → ℕ → ℕ → Seen
part start low high left = Part (record { start = start; low = low; high = high; left = left })

-- After a first byte, by what it starts, behind n bytes.
unfoldable pub started : ℕ → Lead → Seen
started n Alone = Well
started n (Two low high) = part n low high 1
started n (Three low high) = part n low high 2
started n (Four low high) = part n low high 3
started n Never = Ill n

-- After the byte b, where this is lacking.
unfoldable pub went_on : Rest → ℕ → Seen
went_on r b =
    if within r.low r.high b then (if eqb r.left 1 then Well else part r.start 0x80 0xBF (r.left - 1)) else Ill r.start

-- After the byte b, behind n bytes.
unfoldable pub feed : ℕ → Seen → ℕ → Seen
feed n Well b = started n (lead_of b)
feed n (Part r) b = went_on r b
feed n (Ill start) b = Ill start

-- After some bytes.
unfoldable pub feeds : ℕ → Seen → List ℕ → Seen
feeds n s [] = s
feeds n s (b ∷ l) = feeds (n + 1) (feed n s b) l

-- After whole characters.
unfoldable pub pass : Seen → Seen
pass Well = Well
pass (Part r) = Ill r.start
pass (Ill start) = Ill start

-- After what a turn adds, behind n bytes.
unfoldable pub took : ℕ → Seen → More → Seen
took n s (One b) = feed n s b
took n s (Whole c) = pass s

-- What is said where nothing follows.
unfoldable pub verdict : Seen → Judged
verdict Well = whole
verdict (Part r) = ill_at r.start
verdict (Ill start) = ill_at start

-- A sequence in progress wants tails, and one at least.
abbrev pub Fair : Seen → Type 0
Fair Well = Unit {0}
Fair (Part r) = (0x80 ≤ r.low) × (r.high ≤ 0xBF) × (1 ≤ r.left)
Fair (Ill start) = Unit {0}

-- What a turn adds is a byte, or a character.
abbrev pub Proper : More → Type 0
Proper (One b) = b < 256
Proper (Whole c) = is_scalar c ≡ true
