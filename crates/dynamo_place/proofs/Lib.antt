mod Items
mod Texts
