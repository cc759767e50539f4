-- Lists, whatever they hold.
pub mod Items
