-- Characters at the edges, computed from the lists.
use mathlib.Core.Path.{◌≡◌, refl}
use mathlib.Core.Bool.{true, false}
use Rattle.terms.specs.Terms.{within}
use Rattle.classes.specs.Ranges.{member}
use Rattle.classes.specs.XidStart.{xid_starts}
use Rattle.classes.specs.XidContinue.{xid_continues}
use Rattle.classes.specs.Classes.{xid_start, xid_continue, keylike_start, keylike_continue}

-- U+02C1 is the last that the short rule has, and U+02C2 is of neither class
short_last : xid_start 0x2C1 ≡ true
unfolding xid_start xid_starts member within
short_last = refl

pub start_2c2 : xid_start 0x2C2 ≡ false
unfolding xid_start xid_starts member within
start_2c2 = refl

pub continue_2c2 : xid_continue 0x2C2 ≡ false
unfolding xid_continue xid_continues member within
continue_2c2 = refl

-- Greek alpha
alpha : xid_start 0x3B1 ≡ true
unfolding xid_start xid_starts member within
alpha = refl

-- a combining accent goes on with an identifier and starts none
accent_start : keylike_start 0x301 ≡ false
unfolding keylike_start xid_start xid_starts member within
accent_start = refl

accent_continue : keylike_continue 0x301 ≡ true
unfolding keylike_continue xid_continue xid_continues member within
accent_continue = refl

-- the first ideograph of its block
ideograph : xid_start 0x4E00 ≡ true
unfolding xid_start xid_starts member within
ideograph = refl

-- the last code point
last : xid_continue 0x10FFFF ≡ false
unfolding xid_continue xid_continues member within
last = refl

-- no code point
beyond_all : xid_continue 0x110000 ≡ false
unfolding xid_continue xid_continues member within
beyond_all = refl
