-- 01, "Tokens": one raw token. The first character calls for a rule; the rule says where the token ends, and of what kind it is.
use Rattle.std.specs.Prelude.{ℕ, ◌-◌, List, [], ◌∷◌, take, drop, eqb, Option, None, Some, Result, Ok, Err, if◌then◌else◌}
use Rattle.terms.specs.Terms.{Row, ◌to◌is◌, said}
use Rattle.answers.specs.declared.Place.{Place}
use Rattle.answers.specs.declared.Refusal.{Refusal}
use Rattle.answers.specs.declared.Refusal.TheVariants.{IllFormed, Unexpected}
use Rattle.answers.specs.Places.{in_map}
use Rattle.chars.specs.View.{Chars, end, ill, char, place_of, folded_from}
use Rattle.classes.specs.Classes.{keylike_start, keylike_continue}
use Rattle.strings.specs.declared.Literal.{Literal}
use Rattle.strings.specs.Strings.{string_literal}
use Rattle.kinds.specs.declared.Token.{Token}
use Rattle.kinds.specs.Keywords.{keyword}
use Rattle.runs.specs.declared.Block.{Block}
use Rattle.runs.specs.Comments.{Ran, blank, digit, run, line_comment, block_comment}
use Rattle.tokens.specs.declared.Lexeme.{Lexeme}
use Rattle.tokens.specs.declared.Rule.{Rule}
use Rattle.tokens.specs.declared.Rule.TheVariants.{Blanks, Slash, Dash, Percent, Quote, Digits, Word, Mark, Classed}

-- What a raw step answers: a token, or none where the text ends; or a refusal.
abbrev pub Raw : Type 0
Raw = Result (Option Lexeme) Refusal

-- What a rule makes of a token: its kind and the place behind it, or a refusal.
abbrev pub Lexed : Type 0
Lexed = Result (Token × Place) Refusal

-- The rule that a first character calls for.
unfoldable pub rules : List (Row Rule)
rules =
    0x09 to 0x0A is Blanks ∷ 0x20 to 0x20 is Blanks  -- tab, newline, space
    ∷ 0x22 to 0x22 is Quote ∷ 0x25 to 0x25 is Percent  -- " %
    ∷ 0x28 to 0x28 is Mark Token.LeftParen ∷ 0x29 to 0x29 is Mark Token.RightParen  -- ( )
    ∷ 0x2A to 0x2A is Mark Token.Star ∷ 0x2B to 0x2B is Mark Token.Plus ∷ 0x2C to 0x2C is Mark Token.Comma  -- * + ,
    ∷ 0x2D to 0x2D is Dash ∷ 0x2E to 0x2E is Mark Token.Period ∷ 0x2F to 0x2F is Slash  -- - . /
    ∷ 0x30 to 0x39 is Digits ∷ 0x3A to 0x3A is Mark Token.Colon ∷ 0x3B to 0x3B is Mark Token.Semicolon  -- 0 to 9 : ;
    ∷ 0x3C to 0x3C is Mark Token.LessThan ∷ 0x3D to 0x3D is Mark Token.Equals ∷ 0x3E to 0x3E is Mark Token.GreaterThan  -- < = >
    ∷ 0x40 to 0x40 is Mark Token.At ∷ 0x41 to 0x5A is Word ∷ 0x5F to 0x5F is Word ∷ 0x61 to 0x7A is Word  -- @ A to Z _ a to z
    ∷ 0x7B to 0x7B is Mark Token.LeftBrace ∷ 0x7D to 0x7D is Mark Token.RightBrace ∷ []  -- { }

-- Any other first character goes by its class.
unfoldable pub rule_of : ℕ → Rule
rule_of c = said rules Classed c

-- A run or a comment as a token.
unfoldable pub as_token : Token → Ran → Lexed
as_token kind (Ok p) = Ok (kind, p)
as_token kind (Err f) = Err f

-- `/`: a line comment, a block comment, or Slash.
unfoldable pub slash_rule : ℕ → Place → Chars → Lexed
slash_rule o p (end n) = Ok (Token.Slash, n)
slash_rule o p (ill i) = Err (IllFormed i)
slash_rule o p (char n c v) =
    if eqb c 47 then as_token Token.Comment (line_comment v)
    else (if eqb c 42 then as_token Token.Comment (block_comment (in_map o p) (Block.Other 1) v)
    else Ok (Token.Slash, n))

-- `-`: RArrow if `>` follows, else Minus.
unfoldable pub dash_rule : Chars → Lexed
dash_rule (end n) = Ok (Token.Minus, n)
dash_rule (ill i) = Err (IllFormed i)
dash_rule (char n c v) = if eqb c 62 then Ok (Token.RArrow, place_of v) else Ok (Token.Minus, n)

-- `%`: with a keylike start and the longest run of continuations, or alone.
unfoldable pub percent_rule : Chars → Lexed
percent_rule (end n) = Ok (Token.ExplicitId, n)
percent_rule (ill i) = Err (IllFormed i)
percent_rule (char n c v) = if keylike_start c then as_token Token.ExplicitId (run keylike_continue v) else Ok (Token.ExplicitId, n)

-- A word's end gives its bytes, and those its kind.
unfoldable pub as_word : List ℕ → Place → Ran → Lexed
as_word s p (Ok n) = Ok (keyword (take (n.0 - p.0) (drop p.0 s)), n)
as_word s p (Err f) = Err f

-- A string's end.
unfoldable pub as_string : Result Literal Refusal → Lexed
as_string (Ok l) = Ok (Token.StringLiteral, l.end)
as_string (Err f) = Err f

-- The token at p, whose first character is c and behind which v is seen, by its rule.
unfoldable pub lexed_by : Rule → List ℕ → ℕ → Place → ℕ → Chars → Lexed
lexed_by Blanks s o p c v = as_token Token.Whitespace (run blank v)
lexed_by Slash s o p c v = slash_rule o p v
lexed_by Dash s o p c v = dash_rule v
lexed_by Percent s o p c v = percent_rule v
lexed_by Quote s o p c v = as_string (string_literal s o (in_map o p) (place_of v))
lexed_by Digits s o p c v = as_token Token.Integer (run digit v)
lexed_by Word s o p c v = as_word s p (run keylike_continue v)
lexed_by (Mark kind) s o p c v = Ok (kind, place_of v)
lexed_by Classed s o p c v = if keylike_start c then as_word s p (run keylike_continue v) else Err (Unexpected (in_map o p) c)

-- A token with its span.
unfoldable pub spanned : ℕ → Place → Lexed → Raw
spanned o p (Ok (kind, n)) = Ok (Some (record { kind = kind; span = record { start = in_map o p; end = in_map o n }; next = n }))
spanned o p (Err f) = Err f

-- The raw token that a view starts with.
unfoldable pub raw_of : List ℕ → ℕ → Chars → Raw
raw_of s o (end p) = Ok None
raw_of s o (ill i) = Err (IllFormed i)
raw_of s o (char p c v) = spanned o p (lexed_by (rule_of c) s o p c v)

-- The raw token at a place of a text that stands at this offset in the map.
unfoldable pub raw_at : List ℕ → ℕ → Place → Raw
raw_at s o p = raw_of s o (folded_from s p)
