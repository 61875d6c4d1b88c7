-- What is sent is plain: names, statuses and numbers.
use Rattle.std.proofs.Common.{ℕ, ◌<◌, ◌+◌, ◌%◌, ◌^◌, ◌&&◌, nat_le, IsTrue, List, [], ◌∷◌, ◌++◌, refl, arith}
use Rattle.std.specs.Fmt.{decimal}
use Rattle.std.proofs.lemmas.Fmt.{decimal_by_steps}
use Rattle.std.specs.Cmp.{first_so, second_so}
use Rattle.ssap_shape.specs.declared.name.Name.{Name}
use Rattle.ssap_shape.specs.declared.name.Name as name
use Rattle.ssap_shape.specs.declared.status.Status.{Status}
use Rattle.ssap_shape.specs.declared.status.Status as status
use Rattle.ssap_shape.specs.Table.{word}
use Rattle.ssap_shape.specs.Replies.{status_word}
use Rattle.ssap_shape.specs.Plain.{is_plain}

-- each name is plain
pub word_plain : (it : Name) → IsTrue (is_plain (word it))
unfolding word
word_plain name.TheVariants.Credentials = refl
word_plain name.TheVariants.InsertGraph = refl
word_plain name.TheVariants.RemoveGraph = refl
word_plain name.TheVariants.Confirm = refl
word_plain name.TheVariants.QueryType = refl
word_plain name.TheVariants.Query = refl
word_plain name.TheVariants.SubscriptionId = refl
word_plain name.TheVariants.Status = refl
word_plain name.TheVariants.Results = refl
word_plain name.TheVariants.Sequence = refl
word_plain name.TheVariants.NewResults = refl
word_plain name.TheVariants.ObsoleteResults = refl

-- each status is plain
pub status_plain : (it : Status) → IsTrue (is_plain (status_word it))
unfolding status_word
status_plain status.TheVariants.Success = refl
status_plain status.TheVariants.AccessDenied = refl
status_plain status.TheVariants.OutOfResources = refl
status_plain status.TheVariants.NotImplemented = refl
status_plain status.TheVariants.Request = refl
status_plain status.TheVariants.Incomplete = refl
status_plain status.TheVariants.Syntax = refl

-- a byte more stays plain
plain_more : (bytes : List ℕ) (b : ℕ) → IsTrue (is_plain bytes) → IsTrue (is_plain (b ∷ [])) → IsTrue (is_plain (bytes ++ b ∷ []))
plain_more [] b h p = p
plain_more (x ∷ bytes) b h p =
    let here = first_so (nat_le 0x20 x && nat_le x 0x7E) (is_plain bytes) h in
    let rest = plain_more bytes b (second_so (nat_le 0x20 x && nat_le x 0x7E) (is_plain bytes) h) p in
    rw (here, rest) refl

-- a digit is plain
digit_plain : (n : ℕ) → n < 10 → IsTrue (is_plain ((48 + n) ∷ []))
digit_plain n small = grind arith

-- each number is plain
pub decimal_plain : (n : ℕ) → n < 2 ^ 64 → IsTrue (is_plain (decimal n))
decimal_plain = decimal_by_steps (λ n ds. IsTrue (is_plain ds)) digit_plain
    (λ n ds big h. plain_more ds (48 + n % 10) h (digit_plain (n % 10) (omega arith)))
