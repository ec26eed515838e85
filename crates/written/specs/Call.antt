-- What the call that writes an image leaves: change request 7. It is judged as a call on an open area (`write_image` in calls).
use Rattle.std.specs.Prelude.{ℕ, List, length}
use Rattle.refusal.specs.Judgement.{unless_refused}
use Rattle.calls.specs.Judgements.{write_image, judgement}
use Rattle.written.specs.Image.{area_image_over}

-- the bytes that the call leaves in the slice: a refused call changes none
unfoldable pub image_left : List ℕ → List ℕ → List ℕ
image_left ws bytes = unless_refused (judgement ws (write_image (length bytes))) (area_image_over ws bytes) bytes
