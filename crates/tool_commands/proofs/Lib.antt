mod Ages
mod Exact
mod Known
mod Leads
mod Rows
mod StoredValues
mod UserItem
