-- What each kind of fetch-and-op is: its name, its number, the word that it leaves and the operand that does two; and with them what
-- an operation leaves, and the one request that does two (combining: Gottlieb and others 1983; families closed under it: Kruskal,
-- Rudolph and Snir 1988).
use Rattle.std.specs.Prelude.{ℕ, ◌+◌, ◌%◌, ◌^◌, ◌==◌, Bool, if◌then◌else◌, min, max, bit_and, bit_or, List, [], ◌∷◌, ◌++◌, Option, None, Some, codes, bytes_eq}
use Rattle.std.specs.List.{find}
use Rattle.std.specs.Fmt.{decimal}
use Rattle.word_ops.specs.declared.kind.Kind.{Kind}
use Rattle.word_ops.specs.declared.kind.Kind.TheVariants.{Load, Add, And, Or, Min, Max, Store, StoreIfZero}
use Rattle.word_ops.specs.declared.op.Op.{Op}

-- all kinds
abbrev pub kinds : List Kind
kinds = Load ∷ Add ∷ And ∷ Or ∷ Min ∷ Max ∷ Store ∷ StoreIfZero ∷ []

-- a kind's name
abbrev pub kind_name : Kind → List ℕ
kind_name Load = codes "load"
kind_name Add = codes "add"
kind_name And = codes "and"
kind_name Or = codes "or"
kind_name Min = codes "min"
kind_name Max = codes "max"
kind_name Store = codes "store"
kind_name StoreIfZero = codes "store-if-zero"

-- the names of kinds, a space before each
abbrev pub names_of : List Kind → List ℕ
names_of [] = []
names_of (kind ∷ rest) = 32 ∷ kind_name kind ++ names_of rest

-- the number of a kind, by which two kinds are told apart
abbrev pub kind_number : Kind → ℕ
kind_number Load = 0
kind_number Add = 1
kind_number And = 2
kind_number Or = 3
kind_number Min = 4
kind_number Max = 5
kind_number Store = 6
kind_number StoreIfZero = 7

-- how many bits such a number has
abbrev pub kind_bits : ℕ
kind_bits = 3

-- the kind of a number, and the last kind of a number that none has
abbrev pub kind_of_number : ℕ → Kind
kind_of_number n =
    if n == 0 then Load else if n == 1 then Add else if n == 2 then And else if n == 3 then Or
    else if n == 4 then Min else if n == 5 then Max else if n == 6 then Store else StoreIfZero

-- the word that kind leaves, with its operand, where x stood
abbrev pub left_by : Kind → ℕ → ℕ → ℕ
left_by Load e x = x
left_by Add e x = (x + e) % 2 ^ 32
left_by And e x = bit_and x e
left_by Or e x = bit_or x e
left_by Min e x = min x e
left_by Max e x = max x e
left_by Store e x = e
left_by StoreIfZero e x = if x == 0 then e else x

-- the operand that does e first and then f
abbrev pub both_of : Kind → ℕ → ℕ → ℕ
both_of Load e f = e
both_of Add e f = (e + f) % 2 ^ 32
both_of And e f = bit_and e f
both_of Or e f = bit_or e f
both_of Min e f = min e f
both_of Max e f = max e f
both_of Store e f = f
both_of StoreIfZero e f = if e == 0 then f else e

-- the kind of that name, if there is one
abbrev pub kind_named : List ℕ → Option Kind
kind_named text = find (λ kind. bytes_eq (kind_name kind) text) kinds

abbrev pub same_kind : Kind → Kind → Bool
same_kind a b = kind_number a == kind_number b

-- `apply`: the word that an operation leaves where x stood
abbrev pub word_after : Op → ℕ → ℕ
word_after op x = left_by op.kind op.operand x

-- `then`: none where the kinds differ
abbrev pub then_op : Op → Op → Option Op
then_op a b = if same_kind a.kind b.kind then Some (record { kind = a.kind; operand = both_of a.kind a.operand b.operand }) else None

-- the text of an operation: its kind's name, a colon and its operand
abbrev pub op_text : Op → List ℕ
op_text op = kind_name op.kind ++ 58 ∷ decimal op.operand
