-- One to three of a kind, as the items of a channel are (02, note 7). Assumes nothing: these are definitions.

pub data Items (A : Type 0) : Type 0 where
  one_item : A → Items A
  two_items : A → A → Items A
  three_items : A → A → A → Items A
