-- 01, "Tokens": the 44 keywords of lex.rs, by exact bytes, in the order of its `match`.
use Rattle.std.specs.Prelude.{ℕ, List, [], ◌∷◌, if◌then◌else◌}
use Prim.Native.String.{String}
use Rattle.terms.specs.Terms.{same_bytes, ascii}
use Rattle.kinds.specs.declared.Token.{Token}

infix 90 ◌keys◌
-- A row: these bytes are the keyword of this kind.
pub data Key : Type 0 where
  ◌keys◌ : List ℕ → Token → Key

infix 90 ◌names◌
-- The same, by the keyword as it is written.
abbrev pub ◌names◌ : String → Token → Key
text names kind = ascii text keys kind

-- The table.
unfoldable pub keywords : List Key
keywords =
    ("use" names Token.Use) ∷ ("type" names Token.«Type») ∷ ("func" names Token.Func) ∷ ("u8" names Token.U8)
    ∷ ("u16" names Token.U16) ∷ ("u32" names Token.U32) ∷ ("u64" names Token.U64) ∷ ("s8" names Token.S8)
    ∷ ("s16" names Token.S16) ∷ ("s32" names Token.S32) ∷ ("s64" names Token.S64) ∷ ("f32" names Token.F32)
    ∷ ("f64" names Token.F64) ∷ ("char" names Token.Char) ∷ ("resource" names Token.Resource) ∷ ("own" names Token.Own)
    ∷ ("borrow" names Token.Borrow) ∷ ("record" names Token.Record) ∷ ("flags" names Token.Flags)
    ∷ ("variant" names Token.Variant) ∷ ("enum" names Token.Enum) ∷ ("bool" names Token.Bool)
    ∷ ("string" names Token.String_) ∷ ("option" names Token.Option_) ∷ ("result" names Token.Result_)
    ∷ ("future" names Token.Future) ∷ ("stream" names Token.Stream) ∷ ("error-context" names Token.ErrorContext)
    ∷ ("list" names Token.List) ∷ ("map" names Token.Map) ∷ ("_" names Token.Underscore) ∷ ("as" names Token.As)
    ∷ ("from" names Token.From_) ∷ ("static" names Token.Static) ∷ ("interface" names Token.Interface)
    ∷ ("tuple" names Token.Tuple) ∷ ("world" names Token.World) ∷ ("import" names Token.Import)
    ∷ ("export" names Token.Export) ∷ ("package" names Token.Package) ∷ ("constructor" names Token.Constructor)
    ∷ ("include" names Token.Include) ∷ ("with" names Token.With) ∷ ("async" names Token.Async) ∷ []

-- The kind that a table gives a word: that of the first row with its bytes, or Id where none has them.
unfoldable pub key_in : List Key → List ℕ → Token
key_in [] word = Token.Id
key_in (bytes keys kind ∷ rows) word = if same_bytes word bytes then kind else key_in rows word

-- A word's kind.
unfoldable pub keyword : List ℕ → Token
keyword word = key_in keywords word
